-- Splitting the parent of a list keeps to the grammar: the parent that is copied is an element, since it has a child and is editable.
use Rattle.std.proofs.Common.{◌≡◌, ℕ, Bool, true, false, ◌&&◌, ◌||◌, not, if◌then◌else◌, List, [], ◌∷◌, Option, Some, None, is_none, refl, ◌∙◌}
use Rattle.std.specs.Prelude.{codes}
use Rattle.edit_model.specs.DomModel.Forest.{either, first_in, last_in, parent_of, children_of}
use Rattle.edit_model.proofs.DomModel.Links.{parent_count}
use Rattle.inline_value.specs.NodeTests.LineBreaks.{follows_break, precedes_break}
use Rattle.edit_model.specs.State.{State}
use Rattle.edit_model.specs.Compositions.{tag_of, attribute_list_of}
use Rattle.edit_model.specs.Confined.{is_editable_for}
use Rattle.edit_model.specs.Valid.{IsValid}
use Rattle.edit_model.specs.Moves.{insert_before, move_all_before, move_each_last}
use Rattle.edit_model.specs.Run.{Run, final, value, ◌>>◌, done, given, make_element, unset_attribute}
use Rattle.edit_model.proofs.TailOutside.{host_of}
use Rattle.inline_value.specs.EditActions.Siblings.{first_parent, members, starts_in, ends_in, until}
use Rattle.inline_value.specs.WrapSplit.Breaks.{breaks_before, breaks_at_end, breaks_from}
use Rattle.inline_value.specs.WrapSplit.Split.{break_before, break_after, clear_before, copied, copy_front, drop_first_break, close, tidy_after, split_end, split_rest, split_marked, is_void_thing, split_at, split_members, split_parent, split_around, remove_keeping_children}
use Rattle.making_laws.proofs.Splits.{IsElement, still_named}
use Rattle.grammar_laws.specs.Proper.{IsProperState}
use Rattle.grammar_laws.specs.Runs.{Proper}
use Rattle.grammar_laws.proofs.Reading.{tag_proper, list_proper}
use Rattle.making_laws.proofs.Named.{IsNamed, named_parent}
use Rattle.grammar_laws.proofs.ProperRuns.{At, at_bind, at_look, valid_final, proper_final, make_at, proper_answer, proper_parts, proper_moves}

-- ---- line breaks

pub proper_breaks_before : (n : ℕ) → Proper (breaks_before n)
unfolding breaks_before
proper_breaks_before n = search proper_parts depth 9

pub proper_breaks_at_end : (n : ℕ) → Proper (breaks_at_end n)
unfolding breaks_at_end
proper_breaks_at_end n = search proper_parts depth 9

pub proper_breaks_from : (n : ℕ) → Proper (breaks_from n)
unfolding breaks_from
proper_breaks_from n = search (proper_parts, proper_breaks_before, proper_breaks_at_end)

-- ---- the parts that copy nothing

proper_break_before : (wanted : Bool) (a : ℕ) → Proper (break_before wanted a)
unfolding break_before
proper_break_before wanted a = search (proper_parts, proper_moves)

proper_break_after : (wanted : Bool) (z : ℕ) → Proper (break_after wanted z)
unfolding break_after
proper_break_after wanted z = search (proper_parts, proper_moves)

proper_clear_before : (o : ℕ) (list : List ℕ) → Proper (clear_before o list)
unfolding clear_before
proper_clear_before o list = search (proper_parts, proper_breaks_before)

proper_drop_first : (o z : ℕ) → Proper (drop_first_break o z)
unfolding drop_first_break
proper_drop_first o z = search proper_parts depth 9

proper_close : (o z : ℕ) (wanted : Bool) → Proper (close o z wanted)
unfolding close
proper_close o z wanted = search (proper_parts, proper_break_after, proper_breaks_before)

proper_tidy : (z : ℕ) → Proper (tidy_after z)
unfolding tidy_after
proper_tidy z = search (proper_parts, proper_breaks_at_end)

proper_end : (o : ℕ) (list : List ℕ) (z : ℕ) (wanted : Bool) → Proper (split_end o list z wanted)
unfolding split_end
proper_end o list z wanted = search (proper_parts, proper_moves, proper_break_after, proper_breaks_at_end)

tail : (o : ℕ) (list : List ℕ) (a z : ℕ) (before after : Bool) → Run (Unit {0})
tail o list a z before after = do
  move_all_before list o
  break_before before a
  drop_first_break o z
  close o z after
  tidy_after z

proper_tail : (o : ℕ) (list : List ℕ) (a z : ℕ) (before after : Bool) → Proper (tail o list a z before after)
unfolding tail
proper_tail o list a z before after = search (proper_parts, proper_moves, proper_break_before, proper_drop_first, proper_close, proper_tidy)

-- ---- the copy

copied_at : (o a : ℕ) (s : State) → IsValid s → IsProperState s → IsNamed s.trees o → At s (copied o a)
unfolding copied
copied_at o a s is proper named =
    let m : Run ℕ = make_element (tag_of s.trees o) (attribute_list_of s.trees o) in
    let first : At s m = make_at s (tag_of s.trees o) (attribute_list_of s.trees o) (tag_proper s.trees proper.nodes o named) (list_proper s.trees proper.nodes o) in
    at_look _ s (at_bind m _ s first ((proper_rest (value m s)).stays (final m s) (valid_final m s is) (proper_final m s is proper first)))
  where
    proper_rest : (x : ℕ) → Proper (unset_attribute o (codes "id") >> (insert_before o x >> move_each_last (until a (children_of s.trees o)) x))
    proper_rest x = search (proper_parts, proper_moves)

front_at : (o : ℕ) (list : List ℕ) (a : ℕ) (s : State) → IsValid s → IsProperState s → IsNamed s.trees o → At s (copy_front o list a)
unfolding copy_front
front_at o list a s is proper named = at_look _ s (by_start (starts_in s o list))
  where
    by_start : (v : Bool) → At s (if v then done else copied o a)
    by_start true = (proper_answer tt).stays s is proper
    by_start false = copied_at o a s is proper named

rest_at : (o : ℕ) (list : List ℕ) (a z : ℕ) (before after : Bool) (s : State) → IsValid s → IsProperState s → IsNamed s.trees o → At s (split_rest o list a z before after)
unfolding split_rest tail
rest_at o list a z before after s is proper named =
    let front = front_at o list a s is proper named in
    at_bind (copy_front o list a) (λ _. tail o list a z before after) s front
    ((proper_tail o list a z before after).stays (final (copy_front o list a) s) (valid_final (copy_front o list a) s is) (proper_final (copy_front o list a) s is proper front))

marked_at : (o : ℕ) (list : List ℕ) (a z : ℕ) (s : State) → IsValid s → IsProperState s → IsNamed s.trees o → At s (split_marked o list a z)
unfolding split_marked
marked_at o list a z s is proper named =
    at_look _ s (by_ends (not (starts_in s o list) && ends_in s o list) (starts_in s o list && follows_break s.trees o) (ends_in s o list && precedes_break s.trees o))
  where
    by_ends : (v before after : Bool) → At s (if v then split_end o list z after else split_rest o list a z before after)
    by_ends true before after = (proper_end o list z after).stays s is proper
    by_ends false before after = rest_at o list a z before after s is proper named

-- the lists are those of the children of o, which is an element if it is editable
split_at_at : (o : ℕ) (list : List ℕ) (a z : ℕ) (s : State) → IsValid s → IsProperState s → (is_editable_for s o ≡ true → IsElement s o) → At s (split_at o list a z)
unfolding split_at
split_at_at o list a z s is proper named = at_look _ s (by_test (is_editable_for s o) (is_none (parent_of s.trees o) || is_void_thing s o) refl)
  where
    by_test : (v w : Bool) → is_editable_for s o ≡ v → At s (if not v || w then done else (clear_before o list >> split_marked o list a z))
    by_test false w e = (proper_answer tt).stays s is proper
    by_test true true e = (proper_answer tt).stays s is proper
    by_test true false e =
        let m = clear_before o list in
        let own = named e in
        let first = (proper_clear_before o list).stays s is proper in
        at_bind m (λ _. split_marked o list a z) s first
        (marked_at o list a z (final m s) (valid_final m s is) (proper_final m s is proper first) (still_named m s o is own.0 own.1))

members_at : (o : ℕ) (list : List ℕ) (s : State) → IsValid s → IsProperState s → (is_editable_for s o ≡ true → IsElement s o) → At s (split_members o list)
unfolding split_members
members_at o list s is proper named = by_first (first_in list) (last_in list)
  where
    by_first : (p q : Option ℕ) → At s (given p done λ a. given q done λ z. split_at o list a z)
    by_first None q = (proper_answer tt).stays s is proper
    by_first (Some a) None = (proper_answer tt).stays s is proper
    by_first (Some a) (Some z) = split_at_at o list a z s is proper named

-- the parent of a member has a child
first_parent_is : (s : State) (list : List ℕ) (o : ℕ) → first_parent s list ≡ Some o → (x : ℕ) × (parent_of s.trees x ≡ Some o)
unfolding first_parent
first_parent_is s [] o e = absurd (let t : None ≡ Some o = e in cc)
first_parent_is s (x ∷ xs) o e = by_parent (parent_of s.trees x) refl e (λ t. first_parent_is s xs o t)
  where
    by_parent : (p : Option ℕ) → parent_of s.trees x ≡ p → either p (first_parent s xs) ≡ Some o → (first_parent s xs ≡ Some o → (y : ℕ) × (parent_of s.trees y ≡ Some o)) → (y : ℕ) × (parent_of s.trees y ≡ Some o)
    by_parent None at t more = more t
    by_parent (Some q) at t more = (x, at ∙ t)

parent_element : (s : State) (x o : ℕ) → IsValid s → parent_of s.trees x ≡ Some o → is_editable_for s o ≡ true → IsElement s o
parent_element s x o is child editable =
    let host = host_of s o editable in
    (is.forest.below o (parent_count s.trees x o is.forest.distinct child).1, named_parent s.trees s.next is.forest host.0 x o host.2 child)

-- ---- of a list

pub proper_split : (list : List ℕ) → Proper (split_parent list)
unfolding split_parent
proper_split list = record { stays = λ s is proper. at_look _ s (by_parent s is proper (first_parent s list) refl) }
  where
    by_parent : (s : State) → IsValid s → IsProperState s → (p : Option ℕ) → first_parent s list ≡ p → At s (given p done λ o. split_members o (members s o list))
    by_parent s is proper None e = (proper_answer tt).stays s is proper
    by_parent s is proper (Some o) e = (let child = first_parent_is s list o e in members_at o (members s o list) s is proper (parent_element s child.0 o is child.1))

pub proper_split_around : (n : ℕ) → Proper (split_around n)
unfolding split_around
proper_split_around n = search (proper_parts, proper_split)

pub proper_keeping_children : (n : ℕ) → Proper (remove_keeping_children n)
unfolding remove_keeping_children
proper_keeping_children n = search (proper_parts, proper_split)
