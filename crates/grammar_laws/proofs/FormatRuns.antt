-- Removing the format keeps to the grammar.
use Rattle.std.proofs.Common.{ℕ, None}
use Rattle.inline_value.specs.Recording.{recorded_commands}
use Rattle.inline_commands.specs.RemovingFormat.{unwrap_candidates, part_from_format, part_nodes, clear_command, clear_commands, remove_format}
use Rattle.grammar_laws.specs.Runs.{Proper}
use Rattle.grammar_laws.proofs.ProperRuns.{proper_each, proper_parts, proper_unwrap}
use Rattle.grammar_laws.proofs.SelectionRuns.{proper_set_value, proper_split_ends}
use Rattle.grammar_laws.proofs.Splits.{proper_split_around}

proper_unwrap_candidates : Proper unwrap_candidates
unfolding unwrap_candidates
proper_unwrap_candidates = search (proper_parts, proper_unwrap)

proper_part : (n : ℕ) → Proper (part_from_format n)
unfolding part_from_format
proper_part n = search (proper_parts, proper_split_around)

proper_part_nodes : Proper part_nodes
unfolding part_nodes
proper_part_nodes = search (proper_parts, proper_part)

proper_clear_commands : Proper clear_commands
unfolding clear_commands clear_command
proper_clear_commands = proper_each recorded_commands clear_command (λ c. proper_set_value c None tt)

pub proper_remove_format : Proper remove_format
unfolding remove_format
proper_remove_format = search (proper_parts, proper_unwrap_candidates, proper_split_ends, proper_part_nodes, proper_clear_commands)
