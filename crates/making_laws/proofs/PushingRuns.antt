-- Pushing values down, and restoring recorded values, is tame.
use Rattle.std.proofs.Common.{ℕ, List, [], ◌∷◌, Option, Some, None}
use Rattle.edit_model.specs.DomModel.Forest.{first_in}
use Rattle.edit_model.specs.HtmlNames.declared.commands.Command.{Command}
use Rattle.inline_value.specs.CommandValue.SpecifiedValues.{specified}
use Rattle.inline_value.specs.Pushing.{push_to, clear_level, push_level, own_or, push_levels, push_from, push_listed, push_down}
use Rattle.inline_value.specs.Recording.{Recorded, restored_to, restore_value, restore_values, record_values}
use Rattle.making_laws.specs.Tame.{Tame}
use Rattle.making_laws.proofs.TameRuns.{tame_answer, tame_bind, tame_look, tame_parts}
use Rattle.making_laws.proofs.ClearingRuns.{tame_clear_value}
use Rattle.making_laws.proofs.ForcingRuns.{tame_force}

tame_push_to : (command : Command) (w : Option (List ℕ)) (n : ℕ) (next : Option ℕ) (k : ℕ) → Tame (push_to command w n next k)
unfolding push_to
tame_push_to command w n next k = search (tame_parts, tame_force)

tame_clear_level : (command : Command) (e : ℕ) → Tame (clear_level command e)
unfolding clear_level
tame_clear_level command e = search (tame_parts, tame_clear_value)

tame_level : (command : Command) (w : Option (List ℕ)) (n : ℕ) (next : Option ℕ) (e : ℕ) → Tame (push_level command w n next e)
unfolding push_level
tame_level command w n next e = search (tame_parts, tame_clear_level, tame_push_to)

tame_levels : (command : Command) (w : Option (List ℕ)) (n : ℕ) (list : List ℕ) → Tame (push_levels command w n list)
unfolding push_levels
tame_levels command w n [] = tame_answer tt
tame_levels command w n (e ∷ list) =
    tame_look _ (λ s. (
    let u = own_or (specified s.trees e command) w in
    tame_bind (push_level command u n (first_in list) e) (λ _. push_levels command u n list) (tame_level command u n (first_in list) e) (λ _. tame_levels command u n list)))

tame_push_from : (command : Command) (v : Option (List ℕ)) (n : ℕ) (list : List ℕ) (e : ℕ) → Tame (push_from command v n list e)
unfolding push_from
tame_push_from command v n list e = search (tame_parts, tame_levels)

tame_push_listed : (command : Command) (v : Option (List ℕ)) (n : ℕ) (list : List ℕ) → Tame (push_listed command v n list)
unfolding push_listed
tame_push_listed command v n list = search (tame_parts, tame_push_from)

pub tame_push_down : (command : Command) (v : Option (List ℕ)) (n : ℕ) → Tame (push_down command v n)
unfolding push_down
tame_push_down command v n = search (tame_parts, tame_push_listed)

tame_restored : (command : Command) (n : ℕ) (w u : Option (List ℕ)) → Tame (restored_to command n w u)
tame_restored command n None u = search (tame_parts, tame_push_down)
tame_restored command n (Some w) u = search (tame_parts, tame_force)

tame_restore_value : (r : Recorded) → Tame (restore_value r)
unfolding restore_value
tame_restore_value r = search (tame_parts, tame_restored)

pub tame_restore_values : (list : List Recorded) → Tame (restore_values list)
unfolding restore_values
tame_restore_values list = search (tame_parts, tame_restore_value)

pub tame_record_values : (list : List ℕ) → Tame (record_values list)
unfolding record_values
tame_record_values list = search tame_parts
