-- A list of which some first members are done with.
use Rattle.std.proofs.Common.{◌≡◌, ℕ, ◌+◌, ◌<◌, ◌≤◌, true, false, List, length, drop, sym, ap, subst, Result, Ok, Err}
use Rattle.std.proofs.lemmas.List.{drop-drop}
use Rattle.edit_model.specs.NodeArena.declared.NodeRef.{NodeRef}
use Rattle.edit_model.specs.Gives.{labels_of}
use Rattle.edit_model.proofs.Steps.{labels_of_drop, labels_of_end}
use Rattle.edit_model.specs.Gives.{Fails, GivesAs}
use Rattle.edit_model.specs.Run.{Run, final}
use Rattle.edit_model.specs.State.{State}
use Rattle.edit_model.specs.declared.settings.EditFault.{EditFault}
use Rattle.std.specs.Result.{IsErrAnd}
use Rattle.block_commands.specs.Series.{has_members}

-- those after some that are done with, and after more
pub drop_more : (xs : List NodeRef) (m n : ℕ) → drop n (drop m xs) ≡ drop (m + n) xs
drop_more xs m n = drop-drop n m xs

-- whether members are left
pub members_on : (s : State) (xs : List NodeRef) (i : ℕ) → i < length xs → has_members s (labels_of (drop i xs)) ≡ true
members_on s xs i low = ap (has_members s) (labels_of_drop xs i low)

pub members_off : (s : State) (xs : List NodeRef) (i : ℕ) → length xs ≤ i → has_members s (labels_of (drop i xs)) ≡ false
members_off s xs i none = ap (has_members s) (labels_of_end xs i none)

-- the exit of a call that answers how many members are done with
pub exit_count : (xs : List NodeRef) (r : Result ℕ EditFault) (e : EditFault) (s t : State) (m : Run (List ℕ)) →
    IsErrAnd r (λ y. y ≡ e) → Fails e (final m s) → GivesAs (λ count. labels_of (drop count xs)) r s t m
exit_count xs (Ok v) e s t m h f = absurd h
exit_count xs (Err y) e s t m h f = subst (λ x. Fails x (final m s)) (sym h) f
