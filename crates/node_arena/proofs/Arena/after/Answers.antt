use Rattle.std.proofs.Common.{sym, ap, ◌∙◌, arith}
use Rattle.dom_model.specs.TreeOrder.{total_after}
use Rattle.dom_model.proofs.Within.{depth_of-parent}
use Rattle.dom_model.proofs.Walks.{total_after-next, total_after-last}
use Rattle.node_arena.proofs.CountsOk.{sibling_place, parent_place, root_label}
use Rattle.node_arena.proofs.Arena.after.Goals as goal

pub returns-in-Some-next-clause-found : goal.returns-in-Some-next-clause-found
returns-in-Some-next-clause-found c =
    let s = c.args.self.now in
    let law = c.valid.ensures in
    let at = c.loop-parent.at in
    let child = sym c.in-Some.ensures.is in
    let next = sym c.in-Some-next.ensures.is in (
      sibling_place s law at c.in-Some.parent c.in-Some-next.next c.loop-parent.invariant.place child next c.in-Some-next.ensures.held,
      λ w. c.loop-parent.invariant.same w ∙ total_after-next s.trees law.distinct w at.node.label c.in-Some-next.next.label c.in-Some.parent.label child next,
    )

pub overflow_sub-at : goal.overflow_sub-at
overflow_sub-at c =
    omega (arith, c.loop-parent.invariant.place.deep, depth_of-parent c.args.self.now.trees c.loop-parent.at.node.label c.in-Some.parent.label c.valid.ensures.distinct (sym c.in-Some.ensures.is))

pub loop-parent-smaller : goal.loop-parent-smaller
loop-parent-smaller c =
    omega (arith, depth_of-parent c.args.self.now.trees c.loop-parent.at.node.label c.in-Some.parent.label c.valid.ensures.distinct (sym c.in-Some.ensures.is))

pub loop-parent-preserved : goal.loop-parent-preserved
loop-parent-preserved c =
    let s = c.args.self.now in
    let law = c.valid.ensures in
    let at = c.loop-parent.at in
    let child = sym c.in-Some.ensures.is in
    record {
      place = parent_place s law at c.in-Some.parent c.loop-parent.invariant.place child c.in-Some.ensures.held;
      same = λ w. c.loop-parent.invariant.same w ∙ total_after-last s.trees law.distinct w at.node.label c.in-Some.parent.label child (sym c.in_default-next.ensures.is);
    }

pub returns-clause-none : goal.returns-clause-none
returns-clause-none c =
    let root = root_label c.args.self.now c.valid.ensures c.loop-parent.at c.loop-parent.invariant.place (sym c.in_default.ensures.is) in
    λ _ w. c.loop-parent.invariant.same w ∙ ap (total_after w c.args.self.now.trees) root
