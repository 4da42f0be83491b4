-- Splitting a text and setting a tag name leave the states of contenteditable.
use Rattle.std.proofs.Common.{◌≡◌, ℕ, ◌+◌, Bool, true, ◌||◌, not, List, Some}
use Rattle.std.proofs.lemmas.Bool.{or_parts, not-false}
use Rattle.point_order.specs.DomModel.Forest.{parent_of, children_of}
use Rattle.edit_model.specs.State.{State}
use Rattle.edit_model.specs.Confined.{is_editable_for}
use Rattle.point_order.specs.DomModel.Contents.{has_name}
use Rattle.edit_model.specs.Action.{Action, Send, Grow}
use Rattle.edit_model.specs.Run.{◌>>=◌, ◌>>◌, answer, done, insert, remove, make_element, send, grow}
use Rattle.edit_model.specs.Valid.{IsValid}
use Rattle.edit_model.specs.Laws.{LeavesStates}
use Rattle.edit_model.specs.Compositions.{attribute_list_of, points_sent, split_under, split_words, renamed, set_tag_name}
use Rattle.edit_model.specs.Moves.{move_each_last}
use Rattle.edit_model.proofs.Each.{Each, each_bind, each_answer, each_look, each_if, each_choice, each_given, each_for_each, each_edit, each_make_element, each_make_words, each_perform, copy_stateless}

abbrev pub Leaving : Action → State → Type 0
Leaving a s = LeavesStates a

sent_leaves : (p i n at tail : ℕ) (inserted : Bool) → Each Leaving (points_sent p i n at tail inserted)
unfolding points_sent
sent_leaves p i n at tail inserted =
    each_if Leaving inserted (send n at tail >> grow (record { label = p; offset = i + 1 })) done
    (each_bind Leaving (send n at tail) (λ _. grow (record { label = p; offset = i + 1 })) (each_perform Leaving (Send n at tail) (λ s is. tt)) (λ _. each_perform Leaving (Grow (record { label = p; offset = i + 1 })) (λ s is. tt)))
    (each_answer Leaving tt)

split_under_leaves : (p : ℕ) (s : State) (n at : ℕ) → Each Leaving (split_under p s n at)
unfolding split_under
split_under_leaves p s n at = search (each_bind, each_make_words, each_edit, each_answer, sent_leaves)

pub split_words_leaves : (n at : ℕ) → Each Leaving (split_words n at)
unfolding split_words
split_words_leaves n at = search (each_look, each_given, each_answer, split_under_leaves)

move_each_leaves : (ns : List ℕ) (p : ℕ) → Each Leaving (move_each_last ns p)
unfolding move_each_last
move_each_leaves ns p = search (each_for_each, each_bind, each_edit, each_answer)

after_leaves : (p : ℕ) (s : State) (e x : ℕ) → Each Leaving (insert p (Some e) x >>= (λ _. move_each_last (children_of s.trees e) x >>= (λ _. remove e >>= (λ _. answer x))))
after_leaves p s e x = search (each_bind, each_edit, each_answer, move_each_leaves)

renamed_leaves : (p : ℕ) (s : State) (e : ℕ) (name : List ℕ) → IsValid s → is_editable_for s e ≡ true → Each Leaving (renamed p s e name)
unfolding renamed
renamed_leaves p s e name is editable =
    let copied : Each Leaving (make_element name (attribute_list_of s.trees e)) = each_make_element Leaving name (attribute_list_of s.trees e) (λ _ _. copy_stateless s e name is editable) in
    each_bind Leaving (make_element name (attribute_list_of s.trees e)) _ copied (λ x. after_leaves p s e x)

pub set_tag_name_leaves : (e : ℕ) (name : List ℕ) → Each Leaving (set_tag_name e name)
unfolding set_tag_name
set_tag_name_leaves e name =
    each_look Leaving _ (λ s is.
    each_given Leaving (parent_of s.trees e) (answer e) _ (each_answer Leaving e) (λ p.
    each_choice Leaving (has_name s.trees e name || not (is_editable_for s e)) (answer e) (renamed p s e name)
    (λ _. each_answer Leaving e)
    (λ off. renamed_leaves p s e name is (not-false (is_editable_for s e) (or_parts (has_name s.trees e name) (not (is_editable_for s e)) off).1))))
