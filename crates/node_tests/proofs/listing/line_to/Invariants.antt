use Rattle.std.specs.Prelude.{length}
use Rattle.node_styles.specs.DomModel.Forest.{IsWithin, depth_of}
use Rattle.node_tests.specs.Listing.{Leads}
use Rattle.node_tests.proofs.listing.line_to.Given as goal

abbrev pub invariant-loop-at : goal.invariant-loop-at
invariant-loop-at g l = record {
  held : g.N.Nodes.holds l.nodes l.at;
  within : IsWithin (g.N.Nodes.trees l.nodes) l.fn.top.label l.at.label;
  below : IsWithin (g.N.Nodes.trees l.nodes) l.at.label l.fn.node.label;
  leads : Leads (g.N.Nodes.holds l.nodes) (g.N.Nodes.trees l.nodes) l.line.items l.fn.node.label (length l.line.items) l.at.label;
}

abbrev pub decreases-loop-at : goal.decreases-loop-at
decreases-loop-at g l = depth_of (g.N.Nodes.trees l.nodes) l.at.label
