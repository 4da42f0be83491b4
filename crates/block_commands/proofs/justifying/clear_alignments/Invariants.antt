use Rattle.std.proofs.Common.{◌≡◌, drop}
use Rattle.edit_model.specs.Gives.{labels_of}
use Rattle.edit_model.specs.Run.{final, for_each}
use Rattle.inline_value.specs.EditDoc.Held.{Keeps}
use Rattle.block_commands.specs.Justify.{clear_alignment}
use Rattle.block_commands.proofs.justifying.clear_alignments.Given as goal

-- what is left to do ends where the whole ends
abbrev pub invariant-loop-node : goal.invariant-loop-node
invariant-loop-node l =
    (final (for_each (labels_of (drop l.node-index l.node-items)) clear_alignment) l.doc.state
    ≡ final (for_each (labels_of l.node-items) clear_alignment) l.initial.doc.state)
    × Keeps l.initial.doc l.doc
