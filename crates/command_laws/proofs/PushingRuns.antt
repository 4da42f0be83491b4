-- Pushing values down, and restoring recorded values, keep the order, and leave the states of contenteditable.
use Rattle.std.proofs.Common.{ℕ, List, [], ◌∷◌, Option, Some, None}
use Rattle.edit_model.specs.DomModel.Forest.{first_in}
use Rattle.edit_model.specs.HtmlNames.declared.commands.Command.{Command}
use Rattle.inline_value.specs.CommandValue.SpecifiedValues.{specified}
use Rattle.edit_laws.specs.Steady.{Steady}
use Rattle.edit_laws.specs.OrderPreserving.{OrderPreserving}
use Rattle.inline_value.specs.Pushing.{push_to, clear_level, push_level, own_or, push_levels, push_from, push_listed, push_down}
use Rattle.inline_value.specs.Recording.{Recorded, restored_to, restore_value, restore_values, record_values}
use Rattle.command_laws.proofs.ClearingRuns.{fit_clear_value}
use Rattle.command_laws.proofs.Fits.{Fit, fits, fit_answer, fit_bind, fit_look}
use Rattle.command_laws.proofs.ForcingRuns.{fit_force}

fit_push_to : (command : Command) (w : Option (List ℕ)) (n : ℕ) (next : Option ℕ) (k : ℕ) → Fit (push_to command w n next k)
unfolding push_to
fit_push_to command w n next k = search (fits, fit_force)

fit_clear_level : (command : Command) (e : ℕ) → Fit (clear_level command e)
unfolding clear_level
fit_clear_level command e = search (fits, fit_clear_value)

fit_level : (command : Command) (w : Option (List ℕ)) (n : ℕ) (next : Option ℕ) (e : ℕ) → Fit (push_level command w n next e)
unfolding push_level
fit_level command w n next e = search (fits, fit_clear_level, fit_push_to)

fit_levels : (command : Command) (w : Option (List ℕ)) (n : ℕ) (list : List ℕ) → Fit (push_levels command w n list)
unfolding push_levels
fit_levels command w n [] = fit_answer tt
fit_levels command w n (e ∷ list) =
    fit_look _ (λ s. (
    let u = own_or (specified s.trees e command) w in
    fit_bind (push_level command u n (first_in list) e) (λ _. push_levels command u n list) (fit_level command u n (first_in list) e) (λ _. fit_levels command u n list)))

fit_push_from : (command : Command) (v : Option (List ℕ)) (n : ℕ) (list : List ℕ) (e : ℕ) → Fit (push_from command v n list e)
unfolding push_from
fit_push_from command v n list e = search (fits, fit_levels)

fit_push_listed : (command : Command) (v : Option (List ℕ)) (n : ℕ) (list : List ℕ) → Fit (push_listed command v n list)
unfolding push_listed
fit_push_listed command v n list = search (fits, fit_push_from)

pub fit_push_down : (command : Command) (v : Option (List ℕ)) (n : ℕ) → Fit (push_down command v n)
unfolding push_down
fit_push_down command v n = search (fits, fit_push_listed)

fit_restored : (command : Command) (n : ℕ) (w u : Option (List ℕ)) → Fit (restored_to command n w u)
fit_restored command n None u = search (fits, fit_push_down)
fit_restored command n (Some w) u = search (fits, fit_force)

fit_restore_value : (r : Recorded) → Fit (restore_value r)
unfolding restore_value
fit_restore_value r = search (fits, fit_restored)

pub fit_restore_values : (list : List Recorded) → Fit (restore_values list)
unfolding restore_values
fit_restore_values list = search (fits, fit_restore_value)

pub fit_record_values : (list : List ℕ) → Fit (record_values list)
unfolding record_values
fit_record_values list = search fits

-- ---- each certificate by itself

pub order_preserving_restore_values : (list : List Recorded) → OrderPreserving (restore_values list)
order_preserving_restore_values list = (fit_restore_values list).order

pub steady_restore_values : (list : List Recorded) → Steady (restore_values list)
steady_restore_values list = (fit_restore_values list).states

pub order_preserving_record_values : (list : List ℕ) → OrderPreserving (record_values list)
order_preserving_record_values list = (fit_record_values list).order

pub steady_record_values : (list : List ℕ) → Steady (record_values list)
steady_record_values list = (fit_record_values list).states
