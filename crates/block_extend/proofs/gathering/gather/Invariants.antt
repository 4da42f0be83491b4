use Rattle.std.proofs.Common.{◌≡◌, ◌++◌, drop}
use Rattle.std.specs.List.{All, filter}
use Rattle.std.specs.Prelude.{IfSome}
use Rattle.block_extend.specs.Gaps.{top_of, IsTaken}
use Rattle.block_extend.specs.Gather.{gather}
use Rattle.block_extend.proofs.Nesting.{gather_after}
use Rattle.block_extend.proofs.Taking.{labels}
use Rattle.block_extend.proofs.gathering.gather.Given as goal

abbrev pub invariant-loop-node : goal.invariant-loop-node
invariant-loop-node g l = record {
  held : All (g.N.Nodes.holds l.nodes) l.kept.items;
  last : IsTaken (g.N.Nodes.holds l.nodes) (g.N.Nodes.trees l.nodes) l.last;
  known : IfSome l.known (g.C.Choice.knows l.choice l.nodes);
  same : labels l.kept.items ++ gather_after (g.N.Nodes.trees l.nodes) (top_of l.last) (filter (g.C.Choice.chosen l.choice l.nodes) (labels (drop l.node-index l.list))) ≡ gather (g.N.Nodes.trees l.nodes) (filter (g.C.Choice.chosen l.choice l.nodes) (labels l.list));
}
