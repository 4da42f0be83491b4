use Rattle.node_tests.specs.LineBreaks.{end_of}
use Rattle.node_tests.proofs.breaks.meets_break.Goals as goal

pub walk-init : goal.walk-init
walk-init g c = record {
  held = c.end_of-at.ensures.held;
  place = end_of c.args.side (g.N.Nodes.trees c.args.nodes.now) c.args.node.label;
  stands = c.end_of-at.ensures.place;
  same = c.turns-left.ensures c.args.side;
}
