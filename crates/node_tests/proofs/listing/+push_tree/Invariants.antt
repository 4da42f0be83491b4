use Rattle.std.proofs.Common.{◌≡◌, ◌++◌, ◌&&◌}
use Rattle.std.specs.Prelude.{map}
use Rattle.std.specs.List.{All}
use Rattle.node_styles.specs.DomModel.Forest.{first_of, tree_of}
use Rattle.node_styles.specs.NodeArena.Held.{label}
use Rattle.node_tests.specs.Listing.{is_wanted, siblings}
use Rattle.node_tests.specs.Ranges.{all_effective}
use Rattle.node_tests.proofs.Gathered.{Stands}
use Rattle.node_tests.proofs.Inside.{nodes}
use Rattle.node_tests.proofs.Kids.{Kid}
use Rattle.node_tests.proofs.Wanting.{passed}
use Rattle.node_tests.proofs.listing.+push_tree.Given as goal

abbrev pub decreases-push_tree : goal.decreases-push_tree
decreases-push_tree g l = nodes (tree_of (g.N.Nodes.trees l.nodes.now) l.node.label)

abbrev pub invariant-loop-child : goal.invariant-loop-child
invariant-loop-child g l = record {
  kid : Kid (g.N.Nodes.holds l.nodes) (g.N.Nodes.trees l.nodes) l.fn.node.label l.child;
  stands : Stands (g.N.Nodes.trees l.nodes) (label l.start.child) (label l.child) (label l.stop);
  held : All (g.N.Nodes.holds l.nodes) l.found.items;
  listed : map (λ r. r.label) l.found.items ++ passed (is_wanted l.wanted (g.N.Nodes.trees l.nodes) l.fn.range.0 l.fn.range.1) (siblings (g.N.Nodes.trees l.nodes) (label l.child)) ≡ map (λ r. r.label) l.fn.found.items ++ passed (is_wanted l.wanted (g.N.Nodes.trees l.nodes) l.fn.range.0 l.fn.range.1) (siblings (g.N.Nodes.trees l.nodes) (first_of (g.N.Nodes.trees l.nodes) l.fn.node.label));
  flag : (l.whole && all_effective (g.N.Nodes.trees l.nodes) l.fn.range.0 l.fn.range.1 (siblings (g.N.Nodes.trees l.nodes) (label l.child))) ≡ all_effective (g.N.Nodes.trees l.nodes) l.fn.range.0 l.fn.range.1 (siblings (g.N.Nodes.trees l.nodes) (first_of (g.N.Nodes.trees l.nodes) l.fn.node.label));
}

abbrev pub decreases-loop-child : goal.decreases-loop-child
decreases-loop-child g l = nodes (siblings (g.N.Nodes.trees l.nodes) (label l.child))
