use Rattle.std.proofs.Common.{◌≡◌, drop}
use Rattle.edit_model.specs.Gives.{labels_of}
use Rattle.edit_model.specs.Run.{final, for_each}
use Rattle.inline_value.specs.EditDoc.Held.{Keeps}
use Rattle.list_indent.specs.Outdenting.{outdent_node}
use Rattle.text_deletion.proofs.outdents.outdent_each.Given as goal

-- what is left to do ends where the whole ends
abbrev pub invariant-loop-node : goal.invariant-loop-node
invariant-loop-node l =
    (final (for_each (labels_of (drop l.node-index l.list)) outdent_node) l.doc.state
    ≡ final (for_each (labels_of l.list) outdent_node) l.initial.doc.state)
    × Keeps l.initial.doc l.doc
