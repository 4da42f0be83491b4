use Rattle.std.proofs.Common.{ap, sym, ◌∙◌}
use Rattle.node_paths.specs.DomModel.Places.{index_of}
use Rattle.node_paths.specs.NodeArena.Held.{label}
use Rattle.block_extend.proofs.Stepping.{before_child}
use Rattle.block_extend.proofs.places.index_from.Goals as goal

pub returns-then-child-node : goal.returns-then-child-node
returns-then-child-node g c =
    let stands = rw c.in-Some.is at c.requires.known in
    let place = (before_child c.valid.ensures c.in-Some.at stands c.in-Some-after.child.label (ap label c.in-Some-after.is)).0 in
    sym place ∙ ap (index_of (g.N.Nodes.trees c.args.nodes.now)) c.if-child-node.true
