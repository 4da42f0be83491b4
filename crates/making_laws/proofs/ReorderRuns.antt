-- Reordering modifiable descendants is tame.
use Rattle.std.proofs.Common.{ℕ, List}
use Rattle.edit_model.specs.HtmlNames.declared.commands.Command.{Command}
use Rattle.inline_value.specs.Reordering.{swapped, reorder_with, reorder}
use Rattle.making_laws.specs.Tame.{Tame}
use Rattle.making_laws.proofs.TameRuns.{tame_moves, tame_parts}

tame_swapped : (n c : ℕ) → Tame (swapped n c)
unfolding swapped
tame_swapped n c = search (tame_parts, tame_moves) depth 10

tame_with : (command : Command) (v : List ℕ) (n c : ℕ) → Tame (reorder_with command v n c)
unfolding reorder_with
tame_with command v n c = search (tame_parts, tame_swapped)

pub tame_reorder : (command : Command) (v : List ℕ) (n : ℕ) → Tame (reorder command v n)
unfolding reorder
tame_reorder command v n = search (tame_parts, tame_with)
