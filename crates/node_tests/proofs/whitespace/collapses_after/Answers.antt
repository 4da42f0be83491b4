use Rattle.std.proofs.Common.{ap, ◌∙◌, not}
use Rattle.node_tests.specs.SolidNeighbours.{is_solid_neighbour}
use Rattle.node_tests.proofs.Collapsing.{after_collapses}
use Rattle.node_tests.proofs.whitespace.collapses_after.Goals as goal

pub returns : goal.returns
returns g c =
    let law = c.valid.ensures in
    ap not (c.is_solid_neighbour.ensures ∙ ap is_solid_neighbour c.neighbour_on.ensures)
    ∙ after_collapses (g.N.Nodes.trees c.args.nodes.now) law.distinct c.args.node.label (law.here c.args.node c.requires.held) c.requires.leaf
