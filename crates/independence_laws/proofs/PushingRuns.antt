-- Pushing values down, and recording and restoring them, ignore marks and the cap.
use Rattle.std.proofs.Common.{◌≡◌, ℕ, List, Option, [], ◌∷◌, Some, None, refl, ap, ◌++◌}
use Rattle.edit_model.specs.DomModel.Forest.{first_in}
use Rattle.edit_model.specs.HtmlNames.declared.commands.Command.{Command}
use Rattle.inline_value.specs.CommandValue.SpecifiedValues.{specified}
use Rattle.edit_model.specs.Confined.{is_editable_for}
use Rattle.edit_model.specs.State.{State}
use Rattle.inline_value.specs.Pushing.{push_to, clear_level, push_level, push_levels, own_or, push_from, is_hopeless, push_listed, push_down, needs_none, others_above}
use Rattle.inline_value.specs.Forcing.{has_alike}
use Rattle.inline_value.specs.Recording.{record_values, restored_to, Recorded, restore_value, restore_values, value_at, values_at, values_of}
use Rattle.independence_laws.proofs.ForcingRuns.{ignores_force}
use Rattle.independence_laws.proofs.ClearingRuns.{ignores_clear_value}
use Rattle.independence_laws.proofs.IgnoringRuns.{ignores_answer, ignores_bind, ignores_look, ignoring_parts}
use Rattle.independence_laws.specs.Unmarked.{unmarked}
use Rattle.independence_laws.specs.Ignoring.{IgnoresMarks}

values_of_at : (s : State) (list : List ℕ) → values_of (unmarked s) list ≡ values_of s list
unfolding values_of values_at value_at
values_of_at s [] = refl
values_of_at s (n ∷ list) = ap (λ t. values_at s n ++ t) (values_of_at s list)

pub values_of_same : (s : State) → values_of (unmarked s) ≡ values_of s
values_of_same s = λ i list. values_of_at s list i

-- ---- pushing values down

ignores_push_to : (command : Command) (w : Option (List ℕ)) (n : ℕ) (next : Option ℕ) (k : ℕ) → IgnoresMarks (push_to command w n next k)
unfolding push_to
ignores_push_to command w n next k = search (ignoring_parts, ignores_force)

ignores_clear_level : (command : Command) (e : ℕ) → IgnoresMarks (clear_level command e)
unfolding clear_level
ignores_clear_level command e = search (ignoring_parts, ignores_clear_value)

ignores_push_level : (command : Command) (w : Option (List ℕ)) (n : ℕ) (next : Option ℕ) (e : ℕ) → IgnoresMarks (push_level command w n next e)
unfolding push_level
ignores_push_level command w n next e = search (ignoring_parts, ignores_clear_level, ignores_push_to)

ignores_push_levels : (command : Command) (w : Option (List ℕ)) (n : ℕ) (list : List ℕ) → IgnoresMarks (push_levels command w n list)
unfolding push_levels
ignores_push_levels command w n [] = ignores_answer tt
ignores_push_levels command w n (e ∷ list) = ignores_look _ (λ s. refl) (λ s. (
    let u = own_or (specified s.trees e command) w in
    ignores_bind (push_level command u n (first_in list) e) (λ _. push_levels command u n list) (ignores_push_level command u n (first_in list) e) (λ _. ignores_push_levels command u n list)))

ignores_push_from : (command : Command) (v : Option (List ℕ)) (n : ℕ) (list : List ℕ) (e : ℕ) → IgnoresMarks (push_from command v n list e)
unfolding push_from is_hopeless has_alike
ignores_push_from command v n list e = search (ignoring_parts, ignores_push_levels)

ignores_push_listed : (command : Command) (v : Option (List ℕ)) (n : ℕ) (list : List ℕ) → IgnoresMarks (push_listed command v n list)
unfolding push_listed
ignores_push_listed command v n list = search (ignoring_parts, ignores_push_from)

pub ignores_push_down : (command : Command) (v : Option (List ℕ)) (n : ℕ) → IgnoresMarks (push_down command v n)
unfolding push_down needs_none has_alike others_above is_editable_for
ignores_push_down command v n = search (ignoring_parts, ignores_push_listed)

-- ---- recorded values

pub ignores_record_values : (list : List ℕ) → IgnoresMarks (record_values list)
unfolding record_values
ignores_record_values list = ignores_look _ (λ s. rw (values_of_same s)) (λ s. ignores_answer _)

ignores_restored_to : (command : Command) (n : ℕ) (w u : Option (List ℕ)) → IgnoresMarks (restored_to command n w u)
ignores_restored_to command n None u = search (ignoring_parts, ignores_push_down)
ignores_restored_to command n (Some w) u = search (ignoring_parts, ignores_force)

ignores_restore_value : (r : Recorded) → IgnoresMarks (restore_value r)
unfolding restore_value
ignores_restore_value r = search (ignoring_parts, ignores_restored_to)

pub ignores_restore_values : (list : List Recorded) → IgnoresMarks (restore_values list)
unfolding restore_values
ignores_restore_values list = search (ignoring_parts, ignores_restore_value)
