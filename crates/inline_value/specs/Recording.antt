-- Recording and restoring the values of nodes (HTML Editing APIs, "record the values", "restore the
-- values"). The steps are those of docs/ALGORITHMS.md.
use Rattle.std.specs.Prelude.{ℕ, List, [], ◌∷◌, ◌++◌, map, Option, Some, None, is_some, if◌then◌else◌}
use Rattle.std.specs.Option.{option_and_then}
use Rattle.edit_model.specs.DomModel.declared.Content.{Content}
use Rattle.edit_model.specs.DomModel.Forest.{Forest}
use Rattle.edit_model.specs.HtmlNames.declared.commands.Command.{Command}
use Rattle.edit_model.specs.HtmlNames.declared.commands.Command.TheVariants as command
use Rattle.wrap_split.specs.NodeStyles.Lineage.{Ancestor, nearest}
use Rattle.wrap_split.specs.CommandValue.Equivalence.{equivalent}
use Rattle.wrap_split.specs.CommandValue.SpecifiedValues.{specified_in}
use Rattle.edit_model.specs.State.{State}
use Rattle.edit_model.specs.Run.{Run, done, look, answer, for_each}
use Rattle.inline_value.specs.Forcing.{force}
use Rattle.inline_value.specs.Pushing.{push_down}

-- a node, a command, and the value that the node had of it; null where no element gave one
pub record Recorded : Type 0 where
  pub node : ℕ
  pub command : Command
  pub value : Option (List ℕ)

-- the commands whose values are recorded, in order
unfoldable pub recorded_commands : List Command
recorded_commands =
    command.Subscript ∷ command.Bold ∷ command.FontName ∷ command.FontSize ∷ command.ForeColor
    ∷ command.HiliteColor ∷ command.Italic
    ∷ command.Strikethrough ∷ command.Underline ∷ []

-- the nearest element, the node or an ancestor, that gives the command a value
unfoldable pub giver : Forest Content → ℕ → Command → Option Ancestor
giver f n command = nearest (λ c. is_some (specified_in c command)) f n

-- the value that it gives
unfoldable pub given_value : Forest Content → ℕ → Command → Option (List ℕ)
given_value f n command = option_and_then (λ k. specified_in k.content command) (giver f n command)

unfoldable pub value_at : State → ℕ → Command → Recorded
value_at s n command = record { node = n; command = command; value = given_value s.trees n command }

unfoldable pub values_at : State → ℕ → List Recorded
values_at s n = map (value_at s n) recorded_commands

-- record the values, step 1
unfoldable pub values_of : State → List ℕ → List Recorded
values_of s [] = []
values_of s (n ∷ list) = values_at s n ++ values_of s list

-- record the values, step 1, as a run, which changes nothing
unfoldable pub record_values : List ℕ → Run (List Recorded)
record_values list = look λ s. answer (values_of s list)

-- restore the values, step 1, with u as the value that is given now
abbrev pub restored_to : Command → ℕ → Option (List ℕ) → Option (List ℕ) → Run (Unit {0})
restored_to command n None u = if is_some u then push_down command None n else done
restored_to command n (Some w) u =
    if equivalent command u (Some w) then done else force command (Some w) n

-- restore the values, step 1: one entry
unfoldable pub restore_value : Recorded → Run (Unit {0})
restore_value r =
    look λ s. restored_to r.command r.node r.value (given_value s.trees r.node r.command)

-- restore the values, step 1: each entry, in order
unfoldable pub restore_values : List Recorded → Run (Unit {0})
restore_values list = for_each list restore_value
