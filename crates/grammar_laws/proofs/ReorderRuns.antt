-- Reordering modifiable descendants keeps to the grammar.
use Rattle.std.proofs.Common.{ℕ, List}
use Rattle.edit_model.specs.HtmlNames.declared.commands.Command.{Command}
use Rattle.inline_value.specs.Reordering.{swapped, reorder_with, reorder}
use Rattle.grammar_laws.specs.Runs.{Proper}
use Rattle.grammar_laws.proofs.ProperRuns.{proper_moves, proper_parts}

proper_swapped : (n c : ℕ) → Proper (swapped n c)
unfolding swapped
proper_swapped n c = search (proper_parts, proper_moves) depth 10

proper_with : (command : Command) (v : List ℕ) (n c : ℕ) → Proper (reorder_with command v n c)
unfolding reorder_with
proper_with command v n c = search (proper_parts, proper_swapped)

pub proper_reorder : (command : Command) (v : List ℕ) (n : ℕ) → Proper (reorder command v n)
unfolding reorder
proper_reorder command v n = search (proper_parts, proper_with)
