use Rattle.std.proofs.Common.{◌≡◌, Some}
use Rattle.edit_model.specs.DomModel.declared.Content.{Content}
use Rattle.edit_model.specs.DomModel.Forest.{content_of}
use Rattle.edit_model.specs.DomModel.TreeOrder.{total_from}
use Rattle.edit_parts.specs.Walk.{IsIn}
use Rattle.edit_parts.proofs.Bearing.{weight}
use Rattle.edit_parts.proofs.trees.has_no_kept_leaves.Given as goal

abbrev pub invariant-loop-next : goal.invariant-loop-next
invariant-loop-next l = record {
  place : IsIn l.arena l.top l.at;
  none : (c : Content) → content_of l.arena.trees l.at.node.label ≡ Some c → weight l.at.node.label c ≡ 0;
  same : total_from weight l.arena.trees l.at.node.label ≡ total_from weight l.arena.trees l.top.label;
}

abbrev pub decreases-loop-next : goal.decreases-loop-next
decreases-loop-next l = total_from (λ _ _. 1) l.arena.trees l.at.node.label
