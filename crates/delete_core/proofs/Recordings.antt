-- The exit of a `?` from a call that answers recorded values.
use Rattle.std.proofs.Common.{◌≡◌, List, Option, Result, Ok, Err, sym, subst}
use Rattle.std.specs.Result.{IsErrAnd}
use Rattle.edit_model.specs.declared.settings.EditFault.{EditFault}
use Rattle.edit_model.specs.Gives.{Fails, GivesAs}
use Rattle.edit_model.specs.Run.{Run, final}
use Rattle.edit_model.specs.State.{State}
use Rattle.inline_value.specs.declared.recording.Value.{Value}
use Rattle.inline_value.specs.Recording.{Recorded}
use Rattle.delete_core.specs.Values.{recorded_in}

pub exit_recorded : (r : Result (Option (List Value)) EditFault) (e : EditFault) (s t : State) (m : Run (Option (List Recorded))) →
    IsErrAnd r (λ y. y ≡ e) → Fails e (final m s) → GivesAs recorded_in r s t m
exit_recorded (Ok v) e s t m h f = absurd h
exit_recorded (Err y) e s t m h f = subst (λ x. Fails x (final m s)) (sym h) f

pub ruleset recordings = (exit_recorded)
