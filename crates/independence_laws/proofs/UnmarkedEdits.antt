-- What an action makes of a state without marks and cap is what it makes of the state, without them.
use Rattle.std.proofs.Common.{◌≡◌, ℕ, Bool, true, false, ◌&&◌, List, [], ◌∷◌, Option, Some, None, if◌then◌else◌, refl, ap, ◌∙◌}
use Rattle.edit_model.specs.DomModel.declared.Content.{Content}
use Rattle.edit_model.specs.DomModel.Forest.{Forest}
use Rattle.edit_model.specs.LiveRange.LivePoints.{LivePoints, mapped}
use Rattle.edit_model.specs.LiveRange.PointsEdit as range
use Rattle.edit_model.specs.LiveRange.declared.places.Point.{Point}
use Rattle.edit_model.specs.LiveRange.declared.places.Pair.{Pair}
use Rattle.edit_model.specs.State.{State}
use Rattle.edit_model.specs.Confined.{is_editable_for, is_inside, is_made, is_open, is_own, may_insert, may_remove, may_move, may_replace, may_set, may_unset, may_select, may_grow, may_send}
use Rattle.edit_model.specs.Edit.{Edit, Insert, Remove, Move, Replace, Set, Unset, trees_after, points_after, overrides_after, changed, is_made_edit, change_of, with_change, edited}
use Rattle.edit_model.specs.Tail.{Step, Copy, Do}
use Rattle.edit_model.specs.Action.{Action, Change, MakeElement, MakeWords, Select, Extend, Unselect, Grow, Send, Scratch, Override, Flag, Extract, made, with_selection, with_scratch, selected, extended_from, extended, grown, sent, scratched, applied, stepped, stepped_all, tail_of, may_extract, extracted, acted}
use Rattle.independence_laws.specs.Unmarked.{unmarked_points, unmarked}

-- ---- a state that a test chooses

unmarked_if : (b : Bool) (s t : State) → (if b then unmarked s else unmarked t) ≡ unmarked (if b then s else t)
unmarked_if true s t = refl
unmarked_if false s t = refl

-- ---- edits

pub made_edit_same : (e : Edit) (s : State) → is_made_edit e (unmarked s) ≡ is_made_edit e s
unfolding is_made_edit may_insert may_remove may_move may_replace may_set may_unset is_open is_own is_inside is_made is_editable_for
made_edit_same (Insert p b n) s = refl
made_edit_same (Remove n) s = refl
made_edit_same (Move n p b) s = refl
made_edit_same (Replace n at count put) s = refl
made_edit_same (Set n name value) s = refl
made_edit_same (Unset n name) s = refl

points_same : (e : Edit) (f : Forest Content) (points : LivePoints) → points_after e f (unmarked_points points) ≡ unmarked_points (points_after e f points)
unfolding points_after
points_same (Insert p b n) f points = refl
points_same (Remove n) f points = refl
points_same (Move n p b) f points = refl
points_same (Replace n at count put) f points = refl
points_same (Set n name value) f points = refl
points_same (Unset n name) f points = refl

applied_same : (e : Edit) (s : State) → applied e (unmarked s) ≡ unmarked (applied e s)
unfolding applied with_change changed overrides_after
applied_same e s = ap (λ points. with_change (change_of e s.trees) (changed (unmarked s) (trees_after e s.trees) points)) (points_same e s.trees s.points)

edited_same : (e : Edit) (s : State) → edited e (unmarked s) ≡ unmarked (edited e s)
unfolding edited applied
edited_same e s =
    ap (λ b. if b then applied e (unmarked s) else unmarked s) (made_edit_same e s)
    ∙ (ap (λ t. if is_made_edit e s then t else unmarked s) (applied_same e s)
    ∙ unmarked_if (is_made_edit e s) (applied e s) s)

-- ---- selecting

selected_same : (anchor focus : Point) (s : State) → selected anchor focus (unmarked s) ≡ unmarked (selected anchor focus s)
unfolding selected may_select changed overrides_after
selected_same anchor focus s =
    unmarked_if (may_select s anchor && may_select s focus) (with_selection (Some record { anchor = anchor; focus = focus }) s) s

extended_from_same : (o : Option Pair) (focus : Point) (s : State) → extended_from o focus (unmarked s) ≡ unmarked (extended_from o focus s)
unfolding may_select changed overrides_after
extended_from_same None focus s = refl
extended_from_same (Some pair) focus s =
    unmarked_if (may_select s focus) (with_selection (Some record { anchor = pair.anchor; focus = focus }) s) s

extended_same : (focus : Point) (s : State) → extended focus (unmarked s) ≡ unmarked (extended focus s)
unfolding extended
extended_same focus s = extended_from_same s.points.selection focus s

grown_same : (at : Point) (s : State) → grown at (unmarked s) ≡ unmarked (grown at s)
unfolding grown may_grow is_open is_inside is_made is_editable_for changed overrides_after
grown_same at s = unmarked_if (may_grow s at) (changed s s.trees (mapped (range.Grown at) s.points)) s

sent_same : (node at tail : ℕ) (s : State) → sent node at tail (unmarked s) ≡ unmarked (sent node at tail s)
unfolding sent may_send is_own is_made is_editable_for changed overrides_after
sent_same node at tail s =
    unmarked_if (may_send s node at tail) (changed s s.trees (mapped (range.Split node at tail node 0) s.points)) s

scratched_same : (pair : Pair) (s : State) → scratched pair (unmarked s) ≡ unmarked (scratched pair s)
unfolding scratched may_select
scratched_same pair s = unmarked_if (may_select s pair.anchor && may_select s pair.focus) (with_scratch (Some pair) s) s

-- ---- extracting a tail

stepped_same : (x : Step) (s : State) → stepped x (unmarked s) ≡ unmarked (stepped x s)
unfolding stepped made
stepped_same (Copy content) s = refl
stepped_same (Do e) s = applied_same e s

stepped_all_same : (xs : List Step) (s : State) → stepped_all xs (unmarked s) ≡ unmarked (stepped_all xs s)
unfolding stepped_all
stepped_all_same [] s = refl
stepped_all_same (x ∷ xs) s = ap (stepped_all xs) (stepped_same x s) ∙ stepped_all_same xs (stepped x s)

extracted_same : (from : Point) (end target : ℕ) (s : State) → extracted from end target (unmarked s) ≡ unmarked (extracted from end target s)
unfolding extracted may_extract tail_of is_made is_editable_for
extracted_same from end target s =
    ap (λ t. if may_extract s from end target then t else unmarked s) (stepped_all_same (tail_of s from end target) s)
    ∙ unmarked_if (may_extract s from end target) (stepped_all (tail_of s from end target) s) s

-- ---- an action

pub acted_same : (a : Action) (s : State) → acted a (unmarked s) ≡ unmarked (acted a s)
unfolding acted made changed overrides_after
acted_same (Change e) s = edited_same e s
acted_same (MakeElement name attributes) s = refl
acted_same (MakeWords chars) s = refl
acted_same (Select anchor focus) s = selected_same anchor focus s
acted_same (Extend focus) s = extended_same focus s
acted_same Unselect s = refl
acted_same (Grow at) s = grown_same at s
acted_same (Send node at tail) s = sent_same node at tail s
acted_same (Scratch pair) s = scratched_same pair s
acted_same (Override command setting) s = refl
acted_same (Flag flags) s = refl
acted_same (Extract from end target) s = extracted_same from end target s
