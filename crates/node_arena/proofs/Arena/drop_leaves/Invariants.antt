use Rattle.std.proofs.Common.{◌*◌, ◌-◌, ℕ}
use Rattle.dom_model.specs.declared.Content.{Content}
use Rattle.dom_model.specs.Forest.{total, depth_of}
use Rattle.node_arena.proofs.DropTreeOk.{Dropping}
use Rattle.node_arena.proofs.Arena.drop_leaves.Given as goal

abbrev pub invariant-loop-child : goal.invariant-loop-child
invariant-loop-child g l = Dropping l.fn.self l.self l.fn.top l.at

abbrev pub decreases-loop-child : goal.decreases-loop-child
decreases-loop-child g l = 2 * total (λ (_ : ℕ) (_ : Content). 1) l.self.trees - depth_of l.self.trees l.at.label
