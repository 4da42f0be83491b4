use Rattle.std.proofs.Common.{◌||◌, sym, ap, ◌∙◌, true≢false}
use Rattle.edit_model.specs.DomModel.Forest.{parent_of}
use Rattle.block_commands.specs.FormatBlock.{is_outer_block, has_outer_block}
use Rattle.inline_value.proofs.EditQuery.Hosting.{found_inside}
use Rattle.inline_value.proofs.Above.{height_parent}
use Rattle.block_commands.proofs.Above.{any_from, any_here}
use Rattle.block_commands.proofs.lines.has_outer_block.Goals as goal

pub loop-at-init : goal.loop-at-init
unfolding has_outer_block
loop-at-init c =
    let s = c.args.doc.now.state in
    record {
      held = c.parent-at.ensures.held;
      inside = λ on. absurd (true≢false (sym on));
      same = ap (any_from (is_outer_block s) s.trees) c.parent-at.ensures.is;
    }

pub is_editable_inside-editable-requires-clause-known : goal.is_editable_inside-editable-requires-clause-known
is_editable_inside-editable-requires-clause-known c = λ on. rw c.in-Some.is at (c.loop-at.invariant.inside on)

pub returns-then-is_outer_block : goal.returns-then-is_outer_block
returns-then-is_outer_block c =
    let s = c.args.doc.now.state in
    let held = rw c.in-Some.is at c.loop-at.invariant.held in
    let same = rw c.in-Some.is at c.loop-at.invariant.same in
    let here = any_here (is_outer_block s) s.trees c.valid.ensures.valid.forest.distinct c.in-Some.above.label held.here in
    let met = sym c.is_outer_block.ensures ∙ c.if-is_outer_block.true in
    sym (ap (λ b. b || any_from (is_outer_block s) s.trees (parent_of s.trees c.in-Some.above.label)) met) ∙ sym here ∙ same

pub loop-at-smaller : goal.loop-at-smaller
loop-at-smaller c =
    rw (c.in-Some.is, c.parent-at-in-Some.ensures.is) (height_parent c.args.doc.now.state.trees c.valid.ensures.valid.forest.distinct c.in-Some.above.label)

pub loop-at-preserved : goal.loop-at-preserved
loop-at-preserved c =
    let s = c.args.doc.now.state in
    let held = rw c.in-Some.is at c.loop-at.invariant.held in
    let same = rw c.in-Some.is at c.loop-at.invariant.same in
    let here = any_here (is_outer_block s) s.trees c.valid.ensures.valid.forest.distinct c.in-Some.above.label held.here in
    let off = sym c.is_outer_block.ensures ∙ c.if-is_outer_block.false in
    record {
      held = c.parent-at-in-Some.ensures.held;
      inside = λ on. found_inside s c.valid.ensures.valid.forest.distinct c.in-Some.above.label (sym c.is_editable_inside-editable.ensures ∙ on) c.parent-at-in-Some.result c.parent-at-in-Some.ensures.is;
      same =
          ap (any_from (is_outer_block s) s.trees) c.parent-at-in-Some.ensures.is
          ∙ sym (here ∙ ap (λ b. b || any_from (is_outer_block s) s.trees (parent_of s.trees c.in-Some.above.label)) off)
          ∙ same;
    }
