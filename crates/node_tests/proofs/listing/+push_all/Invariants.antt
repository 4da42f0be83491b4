use Rattle.std.proofs.Common.{◌≡◌, ◌++◌, true}
use Rattle.std.specs.Prelude.{map}
use Rattle.std.specs.List.{All}
use Rattle.node_styles.specs.DomModel.Forest.{tree_of}
use Rattle.node_styles.specs.NodeArena.Held.{label}
use Rattle.node_tests.specs.Listing.{siblings}
use Rattle.node_tests.proofs.Inside.{nodes}
use Rattle.node_tests.proofs.Kids.{Kid}
use Rattle.node_tests.proofs.Wanting.{passed}
use Rattle.node_tests.proofs.listing.+push_all.Given as goal

abbrev pub decreases-push_all : goal.decreases-push_all
decreases-push_all g l = nodes (tree_of (g.N.Nodes.trees l.nodes.now) l.node.label)

abbrev pub invariant-loop-child : goal.invariant-loop-child
invariant-loop-child g l = record {
  kid : Kid (g.N.Nodes.holds l.nodes) (g.N.Nodes.trees l.nodes) l.fn.node.label l.child;
  held : All (g.N.Nodes.holds l.nodes) l.found.items;
  listed : map (λ r. r.label) l.found.items ++ passed (λ _. true) (siblings (g.N.Nodes.trees l.nodes) (label l.child)) ≡ map (λ r. r.label) l.fn.found.items ++ passed (λ _. true) (tree_of (g.N.Nodes.trees l.nodes) l.fn.node.label);
}

abbrev pub decreases-loop-child : goal.decreases-loop-child
decreases-loop-child g l = nodes (siblings (g.N.Nodes.trees l.nodes) (label l.child))
