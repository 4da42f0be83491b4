-- Removing the format keeps the order, and leaves the states of contenteditable.
use Rattle.std.proofs.Common.{◌≡◌, ℕ, Bool, true, false, if◌then◌else◌, List, [], ◌∷◌, Option, Some, None, refl, sym, ap, ◌∙◌, inl, inr, true≢false}
use Rattle.std.specs.Prelude.{codes, filter}
use Rattle.std.specs.List.{AllByRecursion}
use Rattle.std.specs.Option.{option_map_or}
use Rattle.std.proofs.lemmas.Bool.{cases_Bool}
use Rattle.edit_model.specs.DomModel.declared.Content.{Content}
use Rattle.edit_model.specs.DomModel.declared.Content.TheVariants.{Document, Element, Words, Remark}
use Rattle.edit_model.specs.DomModel.Contents.{name_in}
use Rattle.edit_model.specs.DomModel.Forest.{parent_of, children_of, content_of, unlink}
use Rattle.edit_model.proofs.DomModel.Kept.{content_of-link, content_of-unlink}
use Rattle.edit_model.specs.HtmlNames.ElementNames.{format_names, is_remove_format_candidate}
use Rattle.inline_value.specs.NodeStyles.NameClasses.{is_format_candidate}
use Rattle.edit_model.specs.State.{State}
use Rattle.edit_model.specs.Confined.{may_move, may_remove}
use Rattle.edit_model.specs.Edit.{Move, Remove, is_made_edit, trees_after, edited}
use Rattle.edit_model.specs.Kept.{borne_by, is_thing}
use Rattle.edit_model.specs.Valid.{IsValid}
use Rattle.edit_model.specs.Moves.{move_before, move_all_before, unwrap}
use Rattle.edit_model.specs.Run.{final, for_each}
use Rattle.edit_model.proofs.Forests.{forest-unlink, can_go}
use Rattle.edit_model.proofs.IslandRuns.{trees_made, trees_left}
use Rattle.edit_model.proofs.Steps.{final-bind, final-answer, final-look, final-edit, for_each-cons, for_each-nil}
use Rattle.edit_model.proofs.Tests.{goes, removes, parent_there}
use Rattle.edit_laws.specs.MoveLaws.{IsBare}
use Rattle.edit_laws.specs.Order.{KeepsOrder, IsKeeping}
use Rattle.edit_laws.specs.Steady.{Steady}
use Rattle.edit_laws.specs.OrderPreserving.{OrderPreserving}
use Rattle.edit_laws.proofs.Lifting.{final_move_before}
use Rattle.edit_laws.proofs.Loose.{before_root}
use Rattle.edit_laws.proofs.QuietActions.{keeping_final}
use Rattle.edit_laws.proofs.SteadyRuns.{steady_parts}
use Rattle.edit_laws.proofs.Subsequences.{keeps_trans}
use Rattle.edit_laws.proofs.OrderPreserving.{order_preserving, order_preserving_answer}
use Rattle.edit_laws.proofs.Unwrapping.{unwrap_keeps, steady_unwrap}
use Rattle.inline_commands.specs.RemovingFormat.{is_candidate, candidates_in_range, unwrap_candidates, part_from_format, part_nodes, clear_command, clear_commands, remove_format}
use Rattle.inline_value.specs.Selections.{nodes_in_range}
use Rattle.command_laws.proofs.Criteria.{no_thing, second_part}
use Rattle.command_laws.proofs.SelectionRuns.{order_preserving_set_value, order_preserving_split_ends, steady_set_value, steady_split_ends}
use Rattle.command_laws.proofs.Splitting.{order_preserving_split_around}
use Rattle.command_laws.proofs.SteadySplits.{steady_split_around}

-- ---- what nodes have stays where others move and go

content_moved : (k p : ℕ) (b : Option ℕ) (s : State) → IsValid s → (l : ℕ) → content_of (edited (Move k p b) s).trees l ≡ content_of s.trees l
unfolding is_made_edit trees_after
content_moved k p b s is l = elim (cases_Bool (may_move s k p b)) [
  | inr left ↦ ap (λ f. content_of f l) (trees_left (Move k p b) s left)
  | inl may ↦ (
      let f = s.trees in
      let t = goes s k p b may in
      let loose = forest-unlink f s.next is.forest t.from k t.child in
      let can = can_go f s.next is.forest t.from k p b t.child t.apart t.parent (parent_there f p t.parent) t.before in
      ap (λ g. content_of g l) (trees_made (Move k p b) s may)
      ∙ (content_of-link (unlink f k) p b k l loose.distinct can ∙ content_of-unlink f t.from k l is.forest.distinct t.child))
]

content_removed : (r : ℕ) (s : State) → IsValid s → (l : ℕ) → content_of (edited (Remove r) s).trees l ≡ content_of s.trees l
unfolding is_made_edit trees_after
content_removed r s is l = elim (cases_Bool (may_remove s r)) [
  | inr left ↦ ap (λ f. content_of f l) (trees_left (Remove r) s left)
  | inl may ↦ (let t = removes s r may in ap (λ f. content_of f l) (trees_made (Remove r) s may) ∙ content_of-unlink s.trees t.from r l is.forest.distinct t.child)
]

content_before : (o k : ℕ) (s : State) → IsValid s → (l : ℕ) → content_of (final (move_before o k) s).trees l ≡ content_of s.trees l
content_before o k s is l = by_parent (parent_of s.trees o) refl
  where
    by_parent : (p : Option ℕ) → parent_of s.trees o ≡ p → content_of (final (move_before o k) s).trees l ≡ content_of s.trees l
    by_parent None root = rw (before_root o k s root) refl
    by_parent (Some p) up = rw (final_move_before o k p s up) (content_moved k p (Some o) s is l)

content_each : (list : List ℕ) (o : ℕ) (s : State) → IsKeeping s → (l : ℕ) → content_of (final (for_each list (move_before o)) s).trees l ≡ content_of s.trees l
content_each [] o s is l = rw (for_each-nil, final-answer) refl
content_each (k ∷ list) o s is l =
    rw (for_each-cons, final-bind) (content_each list o (final (move_before o k) s) (keeping_final (move_before o k) s is) l ∙ content_before o k s is.valid l)

content_unwrapped : (e : ℕ) (s : State) → IsKeeping s → (l : ℕ) → content_of (final (unwrap e) s).trees l ≡ content_of s.trees l
unfolding unwrap move_all_before
content_unwrapped e s is l =
    let t : State = final (for_each (children_of s.trees e) (move_before e)) s in
    rw (final-look, final-bind, final-bind, final-edit, final-answer)
    (content_removed e t (keeping_final (for_each (children_of s.trees e) (move_before e)) s is).valid l ∙ content_each (children_of s.trees e) e s is l)

-- ---- elements that bear nothing themselves, one after the other

AllBare : State → List ℕ → Type 0
AllBare s list = AllByRecursion (λ e. IsBare s e) list

bare_after : (e : ℕ) (s : State) → IsKeeping s → (list : List ℕ) → AllBare s list → AllBare (final (unwrap e) s) list
unfolding AllBare
bare_after e s is [] all = tt
bare_after e s is (l ∷ list) all = ((λ c h. all.0 c (sym (content_unwrapped e s is l) ∙ h)), bare_after e s is list all.1)

unwrap_each : (list : List ℕ) (s : State) → IsKeeping s → AllBare s list → KeepsOrder s (final (for_each list unwrap) s)
unfolding AllBare
unwrap_each [] s is all = rw for_each-nil ((order_preserving_answer tt).keeps s is)
unwrap_each (e ∷ list) s is all =
    let t : State = final (unwrap e) s in
    rw (for_each-cons, final-bind)
    (keeps_trans (unwrap_keeps e s is all.0) (unwrap_each list t (keeping_final (unwrap e) s is) (bare_after e s is list all.1)))

-- a candidate is no image and no rule, and no text
candidate_img : is_remove_format_candidate (codes "img") ≡ false
unfolding is_remove_format_candidate format_names
candidate_img = refl

candidate_hr : is_remove_format_candidate (codes "hr") ≡ false
unfolding is_remove_format_candidate format_names
candidate_hr = refl

candidate_no_thing : (name : List ℕ) → is_remove_format_candidate name ≡ true → is_thing name ≡ false
candidate_no_thing name h = no_thing is_remove_format_candidate candidate_img candidate_hr name h

named_candidate : (s : State) (l : ℕ) → option_map_or (λ c. option_map_or is_remove_format_candidate (name_in c) false) (content_of s.trees l) false ≡ true → IsBare s l
unfolding borne_by
named_candidate s l h Document e = refl
named_candidate s l h (Element name attributes) e =
    let k : is_remove_format_candidate name ≡ true = sym (ap (λ (o : Option Content). option_map_or (λ c. option_map_or is_remove_format_candidate (name_in c) false) o false) e) ∙ h in
    let plain = candidate_no_thing name k in
    rw plain refl
named_candidate s l h (Words chars) e = absurd (true≢false (sym h ∙ ap (λ (o : Option Content). option_map_or (λ c. option_map_or is_remove_format_candidate (name_in c) false) o false) e))
named_candidate s l h (Remark chars) e = refl

candidate_bare : (s : State) (l : ℕ) → is_candidate s l ≡ true → IsBare s l
unfolding is_candidate is_format_candidate
candidate_bare s l = by_host s.host
  where
    by_host : (o : Option ℕ) → option_map_or (λ h. is_format_candidate s.trees h l) o false ≡ true → IsBare s l
    by_host None e = absurd (true≢false (sym e))
    by_host (Some h) e = named_candidate s l (second_part _ _ e)

all_candidates : (s : State) (list : List ℕ) → AllBare s (filter (is_candidate s) list)
unfolding AllBare
all_candidates s [] = tt
all_candidates s (l ∷ list) = by_test (is_candidate s l) refl (all_candidates s list)
  where
    by_test : (v : Bool) → is_candidate s l ≡ v → AllBare s (filter (is_candidate s) list) → AllBare s (if v then l ∷ filter (is_candidate s) list else filter (is_candidate s) list)
    by_test true e more = (candidate_bare s l e, more)
    by_test false e more = more

-- ---- the order

order_preserving_unwrap_candidates : OrderPreserving unwrap_candidates
unfolding unwrap_candidates candidates_in_range
order_preserving_unwrap_candidates = record { keeps = λ s is. rw final-look (unwrap_each (filter (is_candidate s) (nodes_in_range s)) s is (all_candidates s (nodes_in_range s))) }

order_preserving_part : (n : ℕ) → OrderPreserving (part_from_format n)
unfolding part_from_format
order_preserving_part n = search (order_preserving, order_preserving_split_around)

order_preserving_part_nodes : OrderPreserving part_nodes
unfolding part_nodes
order_preserving_part_nodes = search (order_preserving, order_preserving_part)

order_preserving_clear_commands : OrderPreserving clear_commands
unfolding clear_commands clear_command
order_preserving_clear_commands = search (order_preserving, order_preserving_set_value)

pub order_preserving_remove_format : OrderPreserving remove_format
unfolding remove_format
order_preserving_remove_format = search (order_preserving, order_preserving_unwrap_candidates, order_preserving_split_ends, order_preserving_part_nodes, order_preserving_clear_commands)

-- ---- the states of contenteditable

steady_unwrap_candidates : Steady unwrap_candidates
unfolding unwrap_candidates
steady_unwrap_candidates = search (steady_parts, steady_unwrap)

steady_part : (n : ℕ) → Steady (part_from_format n)
unfolding part_from_format
steady_part n = search (steady_parts, steady_split_around)

steady_part_nodes : Steady part_nodes
unfolding part_nodes
steady_part_nodes = search (steady_parts, steady_part)

steady_clear_commands : Steady clear_commands
unfolding clear_commands clear_command
steady_clear_commands = search (steady_parts, steady_set_value)

pub steady_remove_format : Steady remove_format
unfolding remove_format
steady_remove_format = search (steady_parts, steady_unwrap_candidates, steady_split_ends, steady_part_nodes, steady_clear_commands)
