-- What a host may rely on whenever it executes a command, whatever the answer is.
use Rattle.std.specs.Prelude.{◌≡◌, ℕ, nat_lt, Bool, true, false, List, length, Option, Some, Result, Ok, if◌then◌else◌}
use Rattle.edit_model.specs.HtmlNames.declared.commands.Command.{Command}
use Rattle.edit_model.specs.LiveRange.declared.places.Pair.{Pair}
use Rattle.inline_value.specs.EditDoc.Changes.{resumed_at}
use Rattle.inline_value.specs.EditDoc.Kept.{HoldsOnlyNeeded}
use Rattle.edit_engine.specs.declared.answers.Answer.{Answer}
use Rattle.edit_engine.specs.declared.answers.Answer.TheVariants.{Yes}
use Rattle.edit_engine.specs.declared.following.Following.{Following}
use Rattle.edit_engine.specs.declared.following.LastChange.TheVariants.{Made}
use Rattle.edit_engine.specs.Changes.{CanFollow}
use Rattle.edit_engine.specs.Commands.{row_of, action_of}
use Rattle.edit_engine.specs.Confinement.{CommandKeeps, KeepsCharacters, GivesBack, joins_last}
use Rattle.edit_engine.specs.Editing.{Editing, EditorValue, document}
use Rattle.edit_engine.specs.Execution.{host_at, run_at, ran}
use Rattle.edit_engine.specs.Following.{changed_by}
use Rattle.edit_engine.specs.Going.{joins_by}

abbrev pub is_yes : {E : Type 0} → Result Answer E → Bool
is_yes (Ok Yes) = true
is_yes _ = false

-- ---- what a host that follows the document is told

-- whether the run of a command makes an edit
abbrev pub makes_edit : Option Pair → Command → List ℕ → Editing → Bool
makes_edit at c v e =
    nat_lt 0 (length (ran (host_at at e.state) e.state (row_of c).keeping (run_at at (action_of c v))).edits)

-- a run that makes an edit counts for one change more, past the edits of the entry that it joins
abbrev pub told_by_run : (edited joining : Bool) → EditorValue → Following
told_by_run edited joining v =
    if edited then changed_by (Made (resumed_at joining v.editing.history.undo)) v.following
    else v.following

-- a command that isn't taken counts for none
abbrev pub told_by_exec : (taken : Bool) → Option Pair → (joined : Bool) → Option Command → List ℕ
    → EditorValue → Following
told_by_exec true at joined (Some c) value v =
    told_by_run (makes_edit at c value v.editing) (joins_by joined v.editing.going c) v
told_by_exec _ at joined command value v = v.following

-- ---- all that is promised

-- of a command, if the name is one's, with a value, at the selection or on a range, joined or not,
-- which is taken or isn't
pub record ExecPromises (taken : Bool) (at : Option Pair) (joined : Bool) (command : Option Command)
    (value : List ℕ) (old new : EditorValue) : Type 0 where
  pub kept : CommandKeeps (host_at at old.editing.state) at command value old.editing new.editing
  pub characters : KeepsCharacters (host_at at old.editing.state) command old.editing new.editing
  pub given_back : GivesBack (joins_last joined old.editing command) old.editing new.editing
  pub needed : HoldsOnlyNeeded (document new)
  pub followed : CanFollow old new
  pub told : new.following ≡ told_by_exec taken at joined command value old

-- of each command that isn't taken and leaves the editor as it is
abbrev pub PromisesAsIs : EditorValue → Type 0
PromisesAsIs v =
    (at : Option Pair) (joined : Bool) (command : Option Command) (value : List ℕ)
    → ExecPromises false at joined command value v v
