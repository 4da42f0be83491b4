use Rattle.edit_model.specs.DomModel.Forest.{depth_of}
use Rattle.list_indent.proofs.gathering.+push_items.Given as goal

abbrev pub decreases-push_items : goal.decreases-push_items
decreases-push_items l = depth_of l.doc.now.state.trees l.node.label
