use Rattle.std.proofs.Common.{◌≡◌, ◌++◌, drop}
use Rattle.std.specs.List.{filter}
use Rattle.edit_model.specs.Gives.{labels_of}
use Rattle.inline_value.specs.EditDoc.Held.{EachHeld}
use Rattle.block_commands.proofs.gathered.chosen_of.Given as goal

-- those that pass so far are listed, and those of the others are still to be listed
abbrev pub invariant-loop-node : goal.invariant-loop-node
invariant-loop-node g l =
    (labels_of l.kept.items ++ filter (g.C.Choice.chosen l.choice l.doc) (labels_of (drop l.node-index l.list))
    ≡ filter (g.C.Choice.chosen l.choice l.doc) (labels_of l.list))
    × EachHeld l.doc l.kept.items
