-- No action changes what is known of the running command: its host, whether it keeps contents, and where its labels begin.
use Rattle.std.proofs.Common.{◌≡◌, ℕ, ◌&&◌, List, Option, Some, None, refl, ◌∙◌}
use Rattle.point_order.specs.DomModel.declared.Content.{Content}
use Rattle.point_order.specs.LiveRange.declared.places.Point.{Point}
use Rattle.point_order.specs.LiveRange.declared.places.Pair.{Pair}
use Rattle.edit_model.specs.State.{State}
use Rattle.edit_model.specs.Confined.{may_select, may_grow, may_send}
use Rattle.edit_model.specs.Edit.{Edit, is_made_edit, changed, with_change, edited}
use Rattle.edit_model.specs.Action as action
use Rattle.edit_model.specs.Action.{Action, made, applied, stepped_all, selected, extended_from, extended, grown, sent, scratched, acted}
use Rattle.edit_model.specs.Run.{Reaches, Run, final}
use Rattle.edit_model.proofs.Steps.{along, final_keeps, either_way}
use Rattle.edit_model.proofs.TailSteps.{steps_keep, extracted_keeps}
use Rattle.edit_model.specs.Tail.{Step}

pub record SameCommand (s t : State) : Type 0 where
  pub start : t.start ≡ s.start
  pub cap : t.cap ≡ s.cap
  pub host : t.host ≡ s.host
  pub keeping : t.keeping ≡ s.keeping

pub same_command : (s : State) → SameCommand s s
same_command s = record { start = refl; cap = refl; host = refl; keeping = refl }

command_edited : (e : Edit) (s : State) → SameCommand s (edited e s)
unfolding edited with_change changed
command_edited e s = either_way (SameCommand s) (is_made_edit e s) (record { start = refl; cap = refl; host = refl; keeping = refl }) (same_command s)

command_extended : (o : Option Pair) (at : Point) (s : State) → SameCommand s (extended_from o at s)
unfolding changed
command_extended None at s = same_command s
command_extended (Some pair) at s = either_way (SameCommand s) (may_select s at) (record { start = refl; cap = refl; host = refl; keeping = refl }) (same_command s)

command_step : (s t u : State) → SameCommand s t → SameCommand t u → SameCommand s u
command_step s t u h k = record { start = k.start ∙ h.start; cap = k.cap ∙ h.cap; host = k.host ∙ h.host; keeping = k.keeping ∙ h.keeping }

command_made : (c : Content) (t : State) → SameCommand t (made c t)
unfolding made
command_made c t = record { start = refl; cap = refl; host = refl; keeping = refl }

command_applied : (e : Edit) (t : State) → SameCommand t (applied e t)
unfolding applied with_change changed
command_applied e t = record { start = refl; cap = refl; host = refl; keeping = refl }

command_extracted : (from : Point) (end target : ℕ) (s : State) → SameCommand s (acted (action.Extract from end target) s)
unfolding acted
command_extracted from end target s =
    extracted_keeps (SameCommand s) (λ c t h. command_step s t (made c t) h (command_made c t)) (λ e t h. command_step s t (applied e t) h (command_applied e t)) from end target s (same_command s)

-- the same of the steps of a tail, one after another
pub command_steps : (xs : List Step) (s : State) → SameCommand s (stepped_all xs s)
command_steps xs s = steps_keep (SameCommand s) (λ c t h. command_step s t (made c t) h (command_made c t)) (λ e t h. command_step s t (applied e t) h (command_applied e t)) xs s (same_command s)

pub command_acted : (a : Action) (s : State) → SameCommand s (acted a s)
unfolding acted made selected extended grown sent scratched changed
command_acted (action.Change e) s = command_edited e s
command_acted (action.MakeElement name attributes) s = record { start = refl; cap = refl; host = refl; keeping = refl }
command_acted (action.MakeWords chars) s = record { start = refl; cap = refl; host = refl; keeping = refl }
command_acted (action.Select anchor focus) s = either_way (SameCommand s) (may_select s anchor && may_select s focus) (record { start = refl; cap = refl; host = refl; keeping = refl }) (same_command s)
command_acted (action.Extend focus) s = command_extended s.points.selection focus s
command_acted action.Unselect s = record { start = refl; cap = refl; host = refl; keeping = refl }
command_acted (action.Grow at) s = either_way (SameCommand s) (may_grow s at) (record { start = refl; cap = refl; host = refl; keeping = refl }) (same_command s)
command_acted (action.Send node at tail) s = either_way (SameCommand s) (may_send s node at tail) (record { start = refl; cap = refl; host = refl; keeping = refl }) (same_command s)
command_acted (action.Scratch pair) s = either_way (SameCommand s) (may_select s pair.anchor && may_select s pair.focus) (record { start = refl; cap = refl; host = refl; keeping = refl }) (same_command s)
command_acted (action.Override command setting) s = record { start = refl; cap = refl; host = refl; keeping = refl }
command_acted (action.Flag flags) s = record { start = refl; cap = refl; host = refl; keeping = refl }
command_acted (action.Extract from end target) s = command_extracted from end target s

command_next : (s : State) (a : Action) (t : State) → SameCommand s t → SameCommand s (acted a t)
command_next s a t h =
    let k = command_acted a t in
    record { start = k.start ∙ h.start; cap = k.cap ∙ h.cap; host = k.host ∙ h.host; keeping = k.keeping ∙ h.keeping }

pub command_along : {s t : State} → Reaches s t → SameCommand s t
command_along {s = s} r = along (SameCommand s) (command_next s) r (same_command s)

pub final_command : {T : Type 0} (m : Run T) (s : State) → SameCommand s (final m s)
final_command m s = final_keeps (SameCommand s) (command_next s) m s (same_command s)
