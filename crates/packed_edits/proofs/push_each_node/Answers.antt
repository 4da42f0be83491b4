use Rattle.packed_edits.specs.Packed.{node_bytes}
use Rattle.page_write.proofs.Appending.{pieces-more}
use Rattle.packed_edits.proofs.push_each_node.Goals as goal

pub loop-node-preserved : goal.loop-node-preserved
loop-node-preserved c = pieces-more node_bytes c.args.nodes.now c.loop-node.node-index c.node-item.result _ _ _ c.loop-node-test.true c.node-item.is c.loop-node.invariant c.in_ok-push_node.ensures.ok
