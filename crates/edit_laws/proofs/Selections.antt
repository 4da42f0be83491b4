-- A selection stays one along a run that doesn't give it up.
use Rattle.std.proofs.Common.{ℕ, Bool, ◌&&◌, Option, Some, None, IsSome, refl}
use Rattle.std.specs.Option.{option_map}
use Rattle.edit_model.specs.State.{State}
use Rattle.edit_model.specs.Confined.{may_select, may_grow, may_send}
use Rattle.edit_model.specs.Edit.{Edit, Insert, Remove, Move, Replace, Set, Unset, is_made_edit, points_after, changed, with_change, edited}
use Rattle.edit_model.specs.Action as action
use Rattle.edit_model.specs.Action.{Action, made, applied, selected, extended_from, extended, grown, sent, scratched, acted}
use Rattle.edit_model.specs.History.{begun, rested}
use Rattle.edit_model.specs.Run.{Reaches, here, onward}
use Rattle.edit_model.proofs.Steps.{either_way}
use Rattle.edit_model.proofs.TailSteps.{extracted_keeps}
use Rattle.edit_laws.specs.Steady.{IsSteady, SteadyOn}

Has : State → Type 0
Has s = IsSome s.points.selection

mapped_some : {A B : Type 0} (f : A → B) (o : Option A) → IsSome o → IsSome (option_map f o)
mapped_some f None h = absurd (let h' = h in cc)
mapped_some f (Some a) h = refl

mapped_points : (e : Edit) (s : State) → Has s → IsSome (points_after e s.trees s.points).selection
unfolding Has points_after
mapped_points (Insert p b n) s h = mapped_some _ s.points.selection h
mapped_points (Remove n) s h = mapped_some _ s.points.selection h
mapped_points (Move n p b) s h = mapped_some _ s.points.selection h
mapped_points (Replace n at count put) s h = mapped_some _ s.points.selection h
mapped_points (Set n name value) s h = h
mapped_points (Unset n name) s h = h

has_edited : (e : Edit) (s : State) → Has s → Has (edited e s)
unfolding Has edited with_change changed
has_edited e s h = either_way Has (is_made_edit e s) (mapped_points e s h) h

has_applied : (e : Edit) (s : State) → Has s → Has (applied e s)
unfolding Has applied with_change changed
has_applied e s h = mapped_points e s h

has_acted : (a : Action) (s : State) → IsSteady a → Has s → Has (acted a s)
unfolding Has acted made selected extended grown sent scratched changed
has_acted (action.Change e) s steady h = has_edited e s h
has_acted (action.MakeElement name attributes) s steady h = h
has_acted (action.MakeWords chars) s steady h = h
has_acted (action.Select anchor focus) s steady h = either_way Has (may_select s anchor && may_select s focus) refl h
has_acted (action.Extend focus) s steady h = by_selection s.points.selection h
  where
    by_selection : (o : Option _) → IsSome o → Has (extended_from o focus s)
    by_selection None some = absurd (let some' = some in cc)
    by_selection (Some pair) some = either_way Has (may_select s focus) refl h
has_acted action.Unselect s steady h = absurd steady
has_acted (action.Grow at) s steady h = either_way Has (may_grow s at) (mapped_some _ s.points.selection h) h
has_acted (action.Send node at tail) s steady h = either_way Has (may_send s node at tail) (mapped_some _ s.points.selection h) h
has_acted (action.Scratch pair) s steady h = either_way Has (may_select s pair.anchor && may_select s pair.focus) h h
has_acted (action.Override command setting) s steady h = h
has_acted (action.Flag flags) s steady h = h
has_acted (action.Extract from end target) s steady h = extracted_keeps Has (λ c t k. k) (λ e t k. has_applied e t k) from end target s h

has_along : {s t : State} (r : Reaches s t) → SteadyOn r → Has s → Has t
has_along here steady h = h
has_along (onward {t = t} q a) steady h = has_acted a t steady.1 (has_along q steady.0 h)

pub selection_at_rest : (s t : State) (host : Option ℕ) (keeping : Bool) (r : Reaches (begun host keeping s) t) → SteadyOn r → IsSome s.points.selection → IsSome (rested t).points.selection
unfolding Has begun rested
selection_at_rest s t host keeping r steady some = has_along r steady some
