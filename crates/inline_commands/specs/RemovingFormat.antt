-- The command removeFormat (HTML Editing APIs, "the removeFormat command"). The steps are those of
-- docs/ALGORITHMS.md.
use Rattle.std.specs.Prelude.{ℕ, Bool, true, false, List, filter, None}
use Rattle.std.specs.Option.{option_map_or}
use Rattle.edit_model.specs.DomModel.Forest.{parent_of}
use Rattle.edit_model.specs.HtmlNames.declared.commands.Command.{Command}
use Rattle.inline_value.specs.NodeStyles.NameClasses.{is_format_candidate}
use Rattle.edit_model.specs.State.{State}
use Rattle.edit_model.specs.Moves.{unwrap}
use Rattle.edit_model.specs.Run.{Run, ◌>>=◌, ◌>>◌, answer, done, look, for_each, while_at_most}
use Rattle.inline_value.specs.WrapSplit.Split.{split_around}
use Rattle.inline_value.specs.WrapSplit.Walks.{turn_bound}
use Rattle.inline_value.specs.Recording.{recorded_commands}
use Rattle.inline_value.specs.Selections.{nodes_in_range, editable_in_range, split_ends, set_value}

-- a removeFormat candidate for the running command's host
unfoldable pub is_candidate : State → ℕ → Bool
is_candidate s l = option_map_or (λ h. is_format_candidate s.trees h l) s.host false

-- remove the format, step 1: those that the active range effectively contains
unfoldable pub candidates_in_range : State → List ℕ
candidates_in_range s = filter (is_candidate s) (nodes_in_range s)

-- remove the format, step 1: their children take their place
unfoldable pub unwrap_candidates : Run (Unit {0})
unwrap_candidates = look λ s. for_each (candidates_in_range s) unwrap

-- remove the format, step 3: the parent is split as long as it is a candidate
unfoldable pub is_formatted : State → ℕ → Bool
is_formatted s n = option_map_or (is_candidate s) (parent_of s.trees n) false

-- remove the format, step 3: one node leaves the candidates around it
unfoldable pub part_from_format : ℕ → Run (Unit {0})
part_from_format n = look λ s. while_at_most (turn_bound s) is_formatted split_around n >> done

-- remove the format, step 3: each node, in order
unfoldable pub part_nodes : Run (Unit {0})
part_nodes = look λ s. for_each (editable_in_range s) part_from_format

-- remove the format, step 4: the values of the commands whose values are recorded, in their order
unfoldable pub clear_command : Command → Run (Unit {0})
clear_command c = set_value c None

-- remove the format, step 4: each of them
unfoldable pub clear_commands : Run (Unit {0})
clear_commands = for_each recorded_commands clear_command

-- remove the format, steps 1 to 4
unfoldable pub remove_format : Run Bool
remove_format = do
  unwrap_candidates
  split_ends
  part_nodes
  clear_commands
  answer true
