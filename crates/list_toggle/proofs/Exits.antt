-- The exits of calls that answer more than one thing.
use Rattle.std.proofs.Common.{◌≡◌, ℕ, Option, List, drop, sym, subst, Result, Ok, Err}
use Rattle.std.specs.Result.{IsErrAnd}
use Rattle.edit_model.specs.NodeArena.declared.NodeRef.{NodeRef}
use Rattle.edit_model.specs.Gives.{Fails, GivesAs, label_of, labels_of}
use Rattle.edit_model.specs.Run.{Run, final}
use Rattle.edit_model.specs.State.{State}
use Rattle.edit_model.specs.declared.settings.EditFault.{EditFault}
use Rattle.list_toggle.specs.Collecting.{Made}

pub exit_as : {T U : Type 0} (shows : T → U) (r : Result T EditFault) (e : EditFault) (s t : State) (m : Run U) →
    IsErrAnd r (λ y. y ≡ e) → Fails e (final m s) → GivesAs shows r s t m
exit_as shows (Ok v) e s t m h f = absurd h
exit_as shows (Err y) e s t m h f = subst (λ x. Fails x (final m s)) (sym h) f

-- an item that may be made, and how many members it takes
pub exit_made : (xs : List NodeRef) (r : Result (Option NodeRef × ℕ) EditFault) (e : EditFault) (s t : State) (m : Run Made) →
    IsErrAnd r (λ y. y ≡ e) → Fails e (final m s) → GivesAs (λ made. (label_of made.0, labels_of (drop made.1 xs))) r s t m
exit_made xs r e s t m h f = exit_as (λ made. (label_of made.0, labels_of (drop made.1 xs))) r e s t m h f
