-- What executing a command comes to (HTML Editing APIs, "execCommand()").
use Rattle.std.specs.Prelude.{◌≡◌, ◌⊎◌, ℕ, nat_lt, Bool, true, false, not, List, length, Option, Some, None, Result, Ok, Err, if◌then◌else◌}
use Rattle.std.specs.Option.{option_map_or}
use Rattle.command_gate.specs.Denied.{is_denied}
use Rattle.edit_model.specs.HtmlNames.Commands.{command_named}
use Rattle.edit_model.specs.HtmlNames.declared.commands.Command.{Command}
use Rattle.edit_model.specs.HtmlNames.declared.commands.Command.TheVariants.{InsertText}
use Rattle.edit_model.specs.DomModel.Document.{page_depth}
use Rattle.edit_model.specs.State.{State}
use Rattle.edit_model.specs.History.{rested, begun, recorded}
use Rattle.edit_model.specs.Run.{Run, ◌>>◌, final, value, select}
use Rattle.edit_model.specs.LiveRange.declared.places.Pair.{Pair}
use Rattle.edit_engine.specs.declared.answers.Answer.{Answer}
use Rattle.edit_engine.specs.declared.answers.Answer.TheVariants.{Yes, No}
use Rattle.edit_engine.specs.declared.answers.ExecFault.{ExecFault}
use Rattle.edit_engine.specs.declared.answers.ExecFault.TheVariants as fault
use Rattle.edit_engine.specs.declared.answers.RangeFault.{RangeFault}
use Rattle.edit_engine.specs.declared.answers.RangeFault.TheVariants as range_fault
use Rattle.edit_engine.specs.Commands.{row_of, action_of, is_enabled_in}
use Rattle.edit_engine.specs.Going.{joins_by, going_after}
use Rattle.edit_engine.specs.Editing.{Editing}
use Rattle.inline_value.specs.EditActions.ActiveRange.{affected_host, host_of_pair}

-- refused without a change: unsupported or not enabled, too deep a document, or a run past the cap;
-- or the action's answer and the editor after it
pub data Outcome : Type 0 where
  Refused : Outcome
  Deep : Outcome
  Full : Outcome
  Acted : (answer : Bool) (after : Editing) → Outcome

-- how deep a document may be as a command begins
abbrev pub depth_limit : ℕ
depth_limit = 250

-- ---- where a command works: at the selection, or at a range that it selects first

abbrev pub host_at : Option Pair → State → Option ℕ
host_at None s = affected_host s
host_at (Some range) s = host_of_pair s.trees range

abbrev pub run_at : Option Pair → Run Bool → Run Bool
run_at None m = m
run_at (Some range) m = select range.anchor range.focus >> m

-- ---- a run between begin and commit in a host, of a command that is a keeping one or not: the
-- state in which it ends, and its answer

abbrev pub ran : Option ℕ → State → Bool → Run Bool → State
ran host s keeping m = final m (begun host keeping s)

abbrev pub answered : Option ℕ → State → Bool → Run Bool → Bool
answered host s keeping m = value m (begun host keeping s)

-- the editor after a run of a command: with an edit the history has an entry for it, or its last
-- one is longer
abbrev pub after_run : Editing → (joining : Bool) → Command → State → Editing
after_run e joining c t = record {
  state = rested t;
  history = recorded joining e.state t e.history;
  going = going_after e.going joining c (nat_lt 0 (length t.edits));
}

-- execute a command, steps 4 to 6: a run that answers false is taken back
unfoldable pub run_outcome : Editing → Option ℕ → (joining : Bool) → Command → Run Bool → Outcome
run_outcome e host joining c m =
    if nat_lt e.state.cap (ran host e.state (row_of c).keeping m).next then Full
    else (if answered host e.state (row_of c).keeping m
    then Acted true (after_run e joining c (ran host e.state (row_of c).keeping m))
    else Acted false e)

-- ---- commands

-- execute a command, steps 2 and 3, and then from 4 on
unfoldable pub command_outcome : Editing → Option Pair → (joining : Bool) → List ℕ → Command
    → Outcome
command_outcome e at joining v c =
    if not (is_enabled_in (host_at at e.state) c) then Refused
    else (if nat_lt depth_limit (page_depth e.state.trees) then Deep
    else run_outcome e (host_at at e.state) joining c (run_at at (action_of c v)))

-- of a command, if there is one, at the selection or on a range, joined or not
abbrev pub outcome_at : Option Pair → (joined : Bool) → Editing → Option Command → List ℕ → Outcome
outcome_at at joined e command v =
    option_map_or (λ c. command_outcome e at (joins_by joined e.going c) v c) command Refused

-- execute a command, step 1, and then from 2 on; a joined one or not
unfoldable pub outcome_by : (joined : Bool) → Editing → List ℕ → List ℕ → Outcome
outcome_by joined e name v = outcome_at None joined e (command_named name) v

abbrev pub outcome : Editing → List ℕ → List ℕ → Outcome
outcome e name v = outcome_by false e name v

abbrev pub joined_outcome : Editing → List ℕ → List ℕ → Outcome
joined_outcome e name v = outcome_by true e name v

-- execute insertText at a range: typing goes on with it
abbrev pub replaced_outcome : Editing → Pair → List ℕ → Outcome
replaced_outcome e range v = outcome_at (Some range) false e (Some InsertText) v

-- execute a command where names are denied; `outcome` is the case without denied names
unfoldable pub gated_outcome : List (List ℕ) → Editing → List ℕ → List ℕ → Outcome
gated_outcome denied e name v = if is_denied denied name then Refused else outcome e name v

-- execute a command where names are denied, at the selection or on a range, joined or not; the
-- outcomes above are cases of it
unfoldable pub outcome_with : List (List ℕ) → Option Pair → (joined : Bool) → Editing → List ℕ
    → List ℕ → Outcome
outcome_with denied at joined e name v =
    if is_denied denied name then Refused else outcome_at at joined e (command_named name) v

-- ---- which answer comes; a call may be out of memory in its place, and then nothing has changed

abbrev pub Tells : Result Answer ExecFault → Editing → Editing → Outcome → Type 0
Tells (Ok Yes) old new o = o ≡ Acted true new
Tells (Ok No) old new o = ((o ≡ Refused) ⊎ (o ≡ Acted false new)) × (new ≡ old)
Tells (Err fault.Full) old new o = (o ≡ Full) × (new ≡ old)
Tells (Err fault.Deep) old new o = (o ≡ Deep) × (new ≡ old)
Tells (Err fault.Memory) old new o = new ≡ old

-- of a call that may be told a range, which stands in the document
abbrev pub TellsOnRange : Result Answer RangeFault → Editing → Editing → Outcome → Type 0
TellsOnRange (Ok answer) old new o = Tells (Ok answer) old new o
TellsOnRange (Err range_fault.BadPlace) old new o = ⊥
TellsOnRange (Err range_fault.Full) old new o = Tells (Err fault.Full) old new o
TellsOnRange (Err range_fault.Deep) old new o = Tells (Err fault.Deep) old new o
TellsOnRange (Err range_fault.Memory) old new o = Tells (Err fault.Memory) old new o

-- what a call answers that is told a range of which an end stands nowhere: a denied name is refused
-- before
abbrev pub misplaced : (denied : Bool) → Result Answer RangeFault
misplaced true = Ok No
misplaced false = Err range_fault.BadPlace
