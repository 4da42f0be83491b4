use Rattle.std.proofs.Common.{◌≡◌, ◌≤◌, IfSome}
use Rattle.node_styles.specs.NodeArena.Held.{label}
use Rattle.page_write.specs.NodePaths.Onward.{onward_at, IsInner}
use Rattle.page_write.proofs.NodePaths.Visiting.{size_from}
use Rattle.node_texts.specs.Between as cut
use Rattle.node_texts.specs.Walk.{walked}
use Rattle.node_texts.proofs.between.+walk_between.Given as goal

abbrev pub decreases-walk_between : goal.decreases-walk_between
decreases-walk_between g l = size_from (g.N.Nodes.trees l.nodes.now) (label l.first)

-- what is still to be shown makes of the visitor what all makes of it
abbrev pub invariant-loop-at : goal.invariant-loop-at
invariant-loop-at g l = record {
  held : IfSome l.at (λ r. g.N.Nodes.holds l.nodes r);
  inner : IsInner (g.N.Nodes.trees l.nodes) (label l.at);
  fewer : size_from (g.N.Nodes.trees l.nodes) (label l.at) ≤ size_from (g.N.Nodes.trees l.nodes) (label l.fn.first);
  start : cut.IsThere (g.N.Nodes.trees l.nodes) l.start;
  end : cut.IsThere (g.N.Nodes.trees l.nodes) l.end;
  shown : walked g.V.Visitor.entered g.V.Visitor.left (cut.between l.start l.end (onward_at (g.N.Nodes.trees l.nodes) (label l.at))) l.visitor ≡ walked g.V.Visitor.entered g.V.Visitor.left (cut.between l.fn.start l.fn.end (onward_at (g.N.Nodes.trees l.nodes) (label l.fn.first))) l.initial.visitor;
}

abbrev pub decreases-loop-at : goal.decreases-loop-at
decreases-loop-at g l = size_from (g.N.Nodes.trees l.nodes) (label l.at)
