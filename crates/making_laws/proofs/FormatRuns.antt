-- Removing the format is tame.
use Rattle.std.proofs.Common.{ℕ}
use Rattle.inline_commands.specs.RemovingFormat.{unwrap_candidates, part_from_format, part_nodes, clear_command, clear_commands, remove_format}
use Rattle.making_laws.specs.Tame.{Tame}
use Rattle.making_laws.proofs.TameRuns.{tame_parts, tame_unwrap}
use Rattle.making_laws.proofs.SelectionRuns.{tame_set_value, tame_split_ends}
use Rattle.making_laws.proofs.Splits.{tame_split_around}

tame_unwrap_candidates : Tame unwrap_candidates
unfolding unwrap_candidates
tame_unwrap_candidates = search (tame_parts, tame_unwrap)

tame_part : (n : ℕ) → Tame (part_from_format n)
unfolding part_from_format
tame_part n = search (tame_parts, tame_split_around)

tame_part_nodes : Tame part_nodes
unfolding part_nodes
tame_part_nodes = search (tame_parts, tame_part)

tame_clear_commands : Tame clear_commands
unfolding clear_commands clear_command
tame_clear_commands = search (tame_parts, tame_set_value)

pub tame_remove_format : Tame remove_format
unfolding remove_format
tame_remove_format = search (tame_parts, tame_unwrap_candidates, tame_split_ends, tame_part_nodes, tame_clear_commands)
