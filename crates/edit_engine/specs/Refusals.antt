-- A command whose action answers false is taken back; nothing was done then.
use Rattle.std.specs.Prelude.{◌≡◌, ℕ, Bool, false, List}
use Rattle.edit_model.specs.HtmlNames.declared.commands.Command.{Command}
use Rattle.edit_model.specs.State.{State}
use Rattle.edit_model.specs.Run.{Run, final, value}
use Rattle.edit_engine.specs.Commands.{action_of}

-- where the run answers false it leaves the state
abbrev pub LeavesRefused : Run Bool → Type 0
LeavesRefused m = (s : State) → value m s ≡ false → final m s ≡ s

-- so it is of the action of every command, with any value
abbrev pub RefusalsLeave : Type 0
RefusalsLeave = (c : Command) (v : List ℕ) → LeavesRefused (action_of c v)
