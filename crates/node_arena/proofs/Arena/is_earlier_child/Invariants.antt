use Rattle.std.proofs.Common.{◌≡◌, ◌+◌, ◌≤◌, Some}
use Rattle.dom_model.specs.Forest.{parent_of}
use Rattle.dom_model.specs.Places.{index_of}
use Rattle.node_arena.specs.Held.{Holds}
use Rattle.node_arena.proofs.Arena.is_earlier_child.Given as goal

abbrev pub invariant-loop-left_x : goal.invariant-loop-left_x
invariant-loop-left_x l = record {
  before_x_held : Holds l.self l.before_x;
  before_y_held : Holds l.self l.before_y;
  after_x_held : Holds l.self l.after_x;
  after_y_held : Holds l.self l.after_y;
  back : index_of l.self.trees l.before_x.label + index_of l.self.trees l.y.label ≡ index_of l.self.trees l.before_y.label + index_of l.self.trees l.x.label;
  forth : index_of l.self.trees l.after_x.label + index_of l.self.trees l.y.label ≡ index_of l.self.trees l.after_y.label + index_of l.self.trees l.x.label;
  further : index_of l.self.trees l.x.label ≤ index_of l.self.trees l.after_x.label;
  child_x : parent_of l.self.trees l.after_x.label ≡ Some l.fn.parent.label;
  child_y : parent_of l.self.trees l.after_y.label ≡ Some l.fn.parent.label;
}

abbrev pub decreases-loop-left_x : goal.decreases-loop-left_x
decreases-loop-left_x l = index_of l.self.trees l.before_x.label
