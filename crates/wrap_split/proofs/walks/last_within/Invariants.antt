use Rattle.std.proofs.Common.{◌≡◌}
use Rattle.edit_model.specs.DomModel.Forest.{tree_of}
use Rattle.wrap_split.proofs.LastNodes.{nodes}
use Rattle.edit_actions.specs.EditDoc.Held.{Holds}
use Rattle.wrap_split.specs.Walks.{last_within}
use Rattle.wrap_split.proofs.walks.last_within.Given as goal

-- the last node within what is come to is the last within the whole
abbrev pub invariant-loop-child : goal.invariant-loop-child
invariant-loop-child l =
    (last_within l.doc.state.trees l.fn.node.label ≡ last_within l.doc.state.trees l.at.label)
    × Holds l.doc l.at

abbrev pub decreases-loop-child : goal.decreases-loop-child
decreases-loop-child l = nodes (tree_of l.doc.state.trees l.at.label)
