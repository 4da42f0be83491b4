use Rattle.std.proofs.Common.{◌≡◌}
use Rattle.node_styles.specs.TurnBound.{turn_bound}
use Rattle.command_value.specs.EffectiveValues.{background_at}
use Rattle.command_value.proofs.effective_values.background_value.Given as goal

abbrev pub invariant-walk : goal.invariant-walk
invariant-walk g l = record {
  held : g.N.Nodes.holds l.nodes l.at;
  same : background_at l.left (g.N.Nodes.trees l.nodes) l.at.label ≡ background_at (turn_bound (g.N.Nodes.trees l.nodes)) (g.N.Nodes.trees l.nodes) l.fn.element.label;
}

abbrev pub decreases-walk : goal.decreases-walk
decreases-walk g l = l.left
