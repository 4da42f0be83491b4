use Rattle.std.proofs.Common.{◌≡◌, sym, ap, ◌∙◌, arith}
use Rattle.edit_model.proofs.DomModel.Within.{depth_of-parent}
use Rattle.edit_model.specs.DomModel.TreeOrder.{total_after}
use Rattle.edit_model.proofs.DomModel.Walks.{total_after-last}
use Rattle.edit_parts.proofs.Below.{next_in, next_after, parent_in, parent_deep, no_parent}
use Rattle.edit_parts.proofs.trees.after.Goals as goal

pub returns-in-Some-clause-found : goal.returns-in-Some-clause-found
returns-in-Some-clause-found c =
    let s = c.args.arena.now in
    let law = c.valid.ensures in
    let at = c.loop-at.at in
    let off = λ (e : c.args.top.label ≡ at.node.label). c.loop-at-test.true (sym e) in
    let is = sym c.in-Some.ensures.is in (
      next_in s law c.args.top c.requires.top_held at c.in-Some.next c.loop-at.invariant.place off is c.in-Some.ensures.held,
      λ w. c.loop-at.invariant.same w ∙ next_after s law c.args.top c.requires.top_held at c.in-Some.next c.loop-at.invariant.place off is w,
    )

pub loop-at-smaller : goal.loop-at-smaller
loop-at-smaller c =
    omega (arith, depth_of-parent c.args.arena.now.trees c.loop-at.at.node.label c.in-Some-parent.parent.label c.valid.ensures.distinct (sym c.in-Some-parent.ensures.is))

pub loop-at-preserved : goal.loop-at-preserved
loop-at-preserved c =
    let s = c.args.arena.now in
    let law = c.valid.ensures in
    let at = c.loop-at.at in
    let off = λ (e : c.args.top.label ≡ at.node.label). c.loop-at-test.true (sym e) in
    let child = sym c.in-Some-parent.ensures.is in
    record {
      place = parent_in s law c.args.top c.requires.top_held at c.in-Some-parent.parent c.loop-at.invariant.place off child c.in-Some-parent.ensures.held;
      same = λ w. c.loop-at.invariant.same w ∙ total_after-last s.trees law.distinct w at.node.label c.in-Some-parent.parent.label child (sym c.in_default.ensures.is);
    }

pub returns-in-None-clause-none : goal.returns-in-None-clause-none
returns-in-None-clause-none c =
    absurd (no_parent c.args.arena.now c.valid.ensures c.args.top c.requires.top_held c.loop-at.at c.loop-at.invariant.place (λ e. c.loop-at-test.true (sym e)) (sym c.in-None.ensures.is))

pub overflow_sub-at : goal.overflow_sub-at
overflow_sub-at c =
    omega (arith, parent_deep c.args.arena.now c.valid.ensures c.args.top c.requires.top_held c.loop-at.at c.in-Some-parent.parent c.loop-at.invariant.place (λ e. c.loop-at-test.true (sym e)) (sym c.in-Some-parent.ensures.is))
