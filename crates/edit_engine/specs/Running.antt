-- A document after one command on it.
use Rattle.std.specs.Prelude.{◌≡◌, ℕ, nat_lt, Bool, true, false, length, Result, Ok, Err, Option, Some, None}
use Rattle.inline_value.specs.UndoLog.declared.log.Committed.{Committed}
use Rattle.inline_value.specs.UndoLog.declared.log.Committed.TheVariants as committed
use Rattle.edit_model.specs.State.{State, IsPastCap}
use Rattle.edit_model.specs.History.{rested, recorded, document_of}
use Rattle.edit_model.specs.Run.{Run}
use Rattle.edit_model.specs.declared.settings.EditFault.{EditFault}
use Rattle.edit_model.specs.Gives.{Fails}
use Rattle.inline_value.specs.EditDoc.Changes.{Lead, changes_past, resumed_at}
use Rattle.inline_value.specs.EditDoc.Whole.{Whole}
use Rattle.edit_engine.specs.Execution.{ran, answered}

-- the run in a host is made, within the cap, and answers true; it has an entry of its own, or joins
-- the last one
pub record IsMade (old new : Whole) (host : Option ℕ) (joining keeping : Bool) (m : Run Bool)
    : Type 0 where
  pub state : new.state ≡ rested (ran host old.state keeping m)
  pub history : new.history ≡ recorded joining old.state (ran host old.state keeping m) old.history
  pub closed : new.began ≡ None
  pub answer : answered host old.state keeping m ≡ true
  pub within : IsPastCap (ran host old.state keeping m) → ⊥

-- the document is as before
pub record IsTakenBack (old new : Whole) : Type 0 where
  pub state : new.state ≡ old.state
  pub history : new.history ≡ old.history
  pub closed : new.began ≡ None

-- the run answers false, within the cap, and is taken back
pub record IsRefused (old new : Whole) (host : Option ℕ) (keeping : Bool) (m : Run Bool)
    : Type 0 where
  pub back : IsTakenBack old new
  pub answer : answered host old.state keeping m ≡ false
  pub within : IsPastCap (ran host old.state keeping m) → ⊥

abbrev pub has_entry : Committed → Bool
has_entry committed.Nothing = false
has_entry committed.Entry = true

-- a commit tells whether the run made an edit
abbrev pub TellsEdits : Committed → State → Type 0
TellsEdits c t = has_entry c ≡ nat_lt 0 (length t.edits)

-- what a call leaves that makes a run as one command, whatever the run
abbrev pub Ran : Result (Option Committed) EditFault → Whole → Whole → (host : Option ℕ)
    → (joining keeping : Bool) → Run Bool → Type 0
Ran (Ok (Some c)) old new host joining keeping m =
    IsMade old new host joining keeping m × TellsEdits c (ran host old.state keeping m)
Ran (Ok None) old new host joining keeping m = IsRefused old new host keeping m
Ran (Err fault) old new host joining keeping m =
    IsTakenBack old new × Fails fault (ran host old.state keeping m)

-- what a host is told of the document then: the last entry tells what the command changed, past the
-- edits that the entry had; or it made no edit, and nothing has changed
abbrev pub TellsChange : Result (Option Committed) EditFault → Whole → Whole → (joining : Bool)
    → Type 0
TellsChange (Ok (Some committed.Entry)) old new joining =
    Lead (changes_past (resumed_at joining old.history.undo) new.history.undo)
    (document_of old.state.trees) new.state.trees
TellsChange (Ok (Some committed.Nothing)) old new joining =
    new.state.trees ≡ document_of old.state.trees
TellsChange _ old new joining = Unit {0}
