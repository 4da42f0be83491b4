use Rattle.std.proofs.Common.{◌≡◌, ◌++◌, List, ℕ, Some}
use Rattle.std.specs.Prelude.{reverse}
use Rattle.node_styles.specs.DomModel.Forest.{IsWithin, depth_of}
use Rattle.page_write.specs.NodePaths.Paths.{path_of}
use Rattle.node_texts.proofs.ways.path_of.Given as goal

-- the path goes on from here as has been noted from its end on
abbrev pub invariant-loop-parent : goal.invariant-loop-parent
invariant-loop-parent g l = record {
  held : g.N.Nodes.holds l.nodes l.at;
  inner : IsWithin (g.N.Nodes.trees l.nodes) 0 l.at.label;
  way : (above : List ℕ) → path_of (g.N.Nodes.trees l.nodes) l.at.label ≡ Some above → path_of (g.N.Nodes.trees l.nodes) l.fn.node.label ≡ Some (above ++ reverse l.path.items);
}

abbrev pub decreases-loop-parent : goal.decreases-loop-parent
decreases-loop-parent g l = depth_of (g.N.Nodes.trees l.nodes) l.at.label
