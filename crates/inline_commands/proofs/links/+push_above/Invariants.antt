use Rattle.edit_model.specs.DomModel.Forest.{depth_of}
use Rattle.inline_commands.proofs.links.+push_above.Given as goal

abbrev pub decreases-push_above : goal.decreases-push_above
decreases-push_above l = depth_of l.doc.now.state.trees l.node.label
