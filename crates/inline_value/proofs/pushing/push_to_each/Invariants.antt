use Rattle.std.proofs.Common.{◌≡◌, drop}
use Rattle.std.specs.Option.{option_copied}
use Rattle.edit_model.specs.Gives.{label_of, labels_of}
use Rattle.edit_model.specs.Run.{final, for_each}
use Rattle.wrap_split.specs.EditDoc.Held.{Keeps}
use Rattle.inline_value.specs.Pushing.{push_to}
use Rattle.inline_value.proofs.pushing.push_to_each.Given as goal

-- what is left to do ends where the whole ends
abbrev pub invariant-loop-child : goal.invariant-loop-child
invariant-loop-child l =
    (final (for_each (labels_of (drop l.child-index l.list)) (push_to l.command (option_copied l.value) l.ends.0.label (label_of l.ends.1))) l.doc.state
    ≡ final (for_each (labels_of l.list) (push_to l.command (option_copied l.value) l.ends.0.label (label_of l.ends.1))) l.initial.doc.state)
    × Keeps l.initial.doc l.doc
