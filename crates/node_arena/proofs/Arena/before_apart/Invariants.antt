use Rattle.std.proofs.Common.{◌≡◌, ◌≢◌}
use Rattle.dom_model.specs.Forest.{depth_of, IsWithin}
use Rattle.node_arena.specs.Held.{Holds}
use Rattle.node_arena.proofs.Arena.before_apart.Given as goal

abbrev pub invariant-loop-p : goal.invariant-loop-p
invariant-loop-p l = record {
  x_held : Holds l.self l.x;
  y_held : Holds l.self l.y;
  x_above : IsWithin l.self.trees l.x.label l.a.label;
  y_above : IsWithin l.self.trees l.y.label l.b.label;
  deep : depth_of l.self.trees l.x.label ≡ depth_of l.self.trees l.y.label;
  apart : l.x.label ≢ l.y.label;
}

abbrev pub decreases-loop-p : goal.decreases-loop-p
decreases-loop-p l = depth_of l.self.trees l.x.label
