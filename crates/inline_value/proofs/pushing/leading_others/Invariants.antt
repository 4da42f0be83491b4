use Rattle.std.proofs.Common.{◌≡◌, ◌++◌, drop}
use Rattle.std.specs.Option.{option_copied}
use Rattle.edit_model.specs.Gives.{labels_of}
use Rattle.wrap_split.specs.EditDoc.Held.{EachHeld}
use Rattle.inline_value.specs.Pushing.{leading, is_other}
use Rattle.inline_value.proofs.pushing.leading_others.Given as goal

-- the ones so far are listed, and what leads the rest is still to be listed
abbrev pub invariant-loop-node : goal.invariant-loop-node
invariant-loop-node l =
    (labels_of l.others.items ++ leading (is_other l.doc.state l.command (option_copied l.value)) (labels_of (drop l.node-index l.list))
    ≡ leading (is_other l.doc.state l.command (option_copied l.value)) (labels_of l.list))
    × EachHeld l.doc l.others.items
