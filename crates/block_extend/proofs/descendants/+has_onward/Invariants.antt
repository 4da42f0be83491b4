use Rattle.std.proofs.Common.{◌≡◌, ◌≤◌}
use Rattle.node_paths.specs.NodeArena.Held.{label}
use Rattle.node_paths.specs.Onward.{onward_at}
use Rattle.node_paths.proofs.Visiting.{size_from}
use Rattle.block_extend.specs.Descendants.{has_in}
use Rattle.block_extend.proofs.Visiting.{At}
use Rattle.block_extend.proofs.descendants.+has_onward.Given as goal

abbrev pub decreases-has_onward : goal.decreases-has_onward
decreases-has_onward g l = size_from (g.N.Nodes.trees l.nodes.now) (label l.first)

abbrev pub invariant-loop-at : goal.invariant-loop-at
invariant-loop-at g l = record {
  at : At (g.N.Nodes.holds l.nodes) (g.N.Nodes.trees l.nodes) l.at;
  fewer : size_from (g.N.Nodes.trees l.nodes) (label l.at) ≤ size_from (g.N.Nodes.trees l.nodes) (label l.fn.first);
  same : has_in (g.C.Choice.chosen l.choice l.nodes) (onward_at (g.N.Nodes.trees l.nodes) (label l.at))
      ≡ has_in (g.C.Choice.chosen l.choice l.nodes) (onward_at (g.N.Nodes.trees l.nodes) (label l.fn.first));
}

abbrev pub decreases-loop-at : goal.decreases-loop-at
decreases-loop-at g l = size_from (g.N.Nodes.trees l.nodes) (label l.at)
