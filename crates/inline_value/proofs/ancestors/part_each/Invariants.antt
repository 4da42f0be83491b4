use Rattle.std.proofs.Common.{◌≡◌, drop}
use Rattle.edit_model.specs.Gives.{labels_of}
use Rattle.edit_model.specs.Run.{final, for_each}
use Rattle.wrap_split.specs.EditDoc.Held.{Keeps}
use Rattle.inline_value.specs.Ancestors.{part_child}
use Rattle.inline_value.proofs.ancestors.part_each.Given as goal

-- what is left to do ends where the whole ends
abbrev pub invariant-loop-child : goal.invariant-loop-child
invariant-loop-child l =
    (final (for_each (labels_of (drop l.child-index l.list)) part_child) l.doc.state
    ≡ final (for_each (labels_of l.list) part_child) l.initial.doc.state)
    × Keeps l.initial.doc l.doc
