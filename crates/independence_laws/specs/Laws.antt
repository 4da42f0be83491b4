-- The laws of actions and of the commands' runs.
use Rattle.std.specs.Prelude.{◌≡◌, ℕ, List}
use Rattle.edit_model.specs.HtmlNames.declared.commands.Command.{Command}
use Rattle.edit_model.specs.Action.{Action, acted}
use Rattle.edit_model.specs.State.{State}
use Rattle.edit_engine.specs.Commands.{action_of}
use Rattle.independence_laws.specs.Unmarked.{unmarked}
use Rattle.independence_laws.specs.Ignoring.{IgnoresMarks}

-- what an action makes of a state without marks and cap is what it makes of the state, without them
abbrev pub ActionsIgnoreMarks : Type 0
ActionsIgnoreMarks = (a : Action) (s : State) → acted a (unmarked s) ≡ unmarked (acted a s)

-- the action of each command, with every value
abbrev pub CommandsIgnoreMarks : Type 0
CommandsIgnoreMarks = (c : Command) (v : List ℕ) → IgnoresMarks (action_of c v)
