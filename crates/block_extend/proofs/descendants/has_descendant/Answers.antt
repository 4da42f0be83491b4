use Rattle.node_paths.proofs.Visiting.{inner_first}
use Rattle.block_extend.proofs.descendants.has_descendant.Goals as goal

pub has_onward-requires-clause-inner : goal.has_onward-requires-clause-inner
has_onward-requires-clause-inner g c =
    let f = g.N.Nodes.trees c.args.nodes.now in
    let law = c.valid.ensures in
    rw c.first_child.ensures.is (inner_first f c.args.node.label law.distinct (law.here c.args.node c.requires))
