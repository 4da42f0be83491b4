use Rattle.std.proofs.Common.{◌<◌, ap, sym, ◌∙◌, arith}
use Rattle.node_styles.specs.NodeArena.Held.{label}
use Rattle.page_write.specs.NodePaths.Onward.{onward_at}
use Rattle.page_write.proofs.NodePaths.Visiting.{size_from}
use Rattle.node_texts.specs.Between as cut
use Rattle.node_texts.proofs.Cutting.{there_passed, there_below, shown_over, shown_ahead, shown_more, shown_last}
use Rattle.node_texts.proofs.Visiting.{come_at, leads_on}
use Rattle.node_texts.proofs.between.+walk_between.Goals as goal

pub returns-then-is_over : goal.returns-then-is_over
returns-then-is_over g t c =
    let f = g.N.Nodes.trees c.args.nodes.now in
    record {
      ok = sym (shown_over g.V.Visitor.entered g.V.Visitor.left c.loop-at.start c.loop-at.end (onward_at f (label c.loop-at.at)) (sym c.is_over.ensures ∙ c.if-is_over.true) c.loop-at.visitor) ∙ c.loop-at.invariant.shown;
    }

pub loop-at-smaller-then-is_ahead : goal.loop-at-smaller-then-is_ahead
loop-at-smaller-then-is_ahead g t c =
    let f = g.N.Nodes.trees c.args.nodes.now in
    let i = c.loop-at.invariant in
    let v = come_at c.valid.ensures c.loop-at.at c.in-Some.node c.content-content.result.now c.in-Some.is i.held i.inner c.content-content.ensures in
    (leads_on f c.loop-at.at c.in-Some.node c.in-Some.is _ _ c.next-at.ensures v.after v.next).0

pub loop-at-preserved-then-is_ahead : goal.loop-at-preserved-then-is_ahead
loop-at-preserved-then-is_ahead g t c =
    let f = g.N.Nodes.trees c.args.nodes.now in
    let i = c.loop-at.invariant in
    let l = c.in-Some.node.label in
    let there = c.valid.ensures.here c.in-Some.node (rw c.in-Some.is at i.held) in
    let v = come_at c.valid.ensures c.loop-at.at c.in-Some.node c.content-content.result.now c.in-Some.is i.held i.inner c.content-content.ensures in
    let after = leads_on f c.loop-at.at c.in-Some.node c.in-Some.is _ _ c.next-at.ensures v.after v.next in
    record {
      held = c.next-at.ensures.held;
      inner = after.1;
      fewer = omega (arith, after.0, i.fewer);
      start = rw c.passed.ensures (there_passed f c.loop-at.start i.start);
      end = rw c.passed-then-is_ahead.ensures (there_passed f c.loop-at.end i.end);
      shown = rw (c.passed.ensures, c.passed-then-is_ahead.ensures)
          (shown_ahead g.V.Visitor.entered g.V.Visitor.left f c.valid.ensures.distinct l c.content-content.result.now there c.content-content.ensures v c.loop-at.start c.loop-at.end (label c.loop-at.at) (ap label c.in-Some.is)
          (sym c.is_over.ensures ∙ c.if-is_over.false) (sym c.is_ahead.ensures ∙ c.if-is_ahead.true) (label c.next-at.result) c.next-at.ensures.is c.loop-at.visitor _ i.shown);
    }

pub walk_between-requires : goal.walk_between-requires
walk_between-requires g t c κs within =
    let f = g.N.Nodes.trees c.args.nodes.now in
    let i = c.loop-at.invariant in
    let l = c.in-Some.node.label in
    let v = come_at c.valid.ensures c.loop-at.at c.in-Some.node c.content-content.result.now c.in-Some.is i.held i.inner c.content-content.ensures in
    let below = leads_on f c.loop-at.at c.in-Some.node c.in-Some.is _ _ c.first_child-child.ensures v.below v.first in
    let whole = c.decreases in
    let smaller : size_from f (label c.first_child-child.result) < t = omega (arith, below.0, i.fewer, whole) in
    let start : cut.IsThere f c.below.result = rw c.below.ensures (there_below f c.loop-at.start l i.start) in
    let end : cut.IsThere f c.below-in-Some.result = rw c.below-in-Some.ensures (there_below f c.loop-at.end l i.end) in
    (smaller, (within.0, (within.1, (c.first_child-child.ensures.held, (below.1, (start, end))))))

pub returns-then-stands_in : goal.returns-then-stands_in
returns-then-stands_in g t c =
    let f = g.N.Nodes.trees c.args.nodes.now in
    let i = c.loop-at.invariant in
    let l = c.in-Some.node.label in
    let there = c.valid.ensures.here c.in-Some.node (rw c.in-Some.is at i.held) in
    let v = come_at c.valid.ensures c.loop-at.at c.in-Some.node c.content-content.result.now c.in-Some.is i.held i.inner c.content-content.ensures in
    record {
      ok = shown_last g.V.Visitor.entered g.V.Visitor.left f c.valid.ensures.distinct l c.content-content.result.now there c.content-content.ensures v c.loop-at.start c.loop-at.end (label c.loop-at.at) (ap label c.in-Some.is)
          (sym c.is_over.ensures ∙ c.if-is_over.false) (sym c.is_ahead.ensures ∙ c.if-is_ahead.false) (sym c.stands_in.ensures ∙ c.if-stands_in.true)
          (label c.first_child-child.result) c.first_child-child.ensures.is c.loop-at.visitor c.enter_part.new.self c.walk_between.new.visitor c.leave.new.self _ i.shown
          (rw (← c.lower.ensures, ← c.upper.ensures) c.in_ok-enter_part.ensures.ok)
          (rw (← c.below.ensures, ← c.below-in-Some.ensures) c.in_ok-walk_between.ensures.ok)
          c.in_ok-leave.ensures.ok (g.met.V.PartVisitor.leaves_parts c.walk_between.new.visitor l _ _ c.content-content.result.now);
    }

pub loop-at-smaller : goal.loop-at-smaller
loop-at-smaller g t c =
    let f = g.N.Nodes.trees c.args.nodes.now in
    let i = c.loop-at.invariant in
    let v = come_at c.valid.ensures c.loop-at.at c.in-Some.node c.content-content.result.now c.in-Some.is i.held i.inner c.content-content.ensures in
    (leads_on f c.loop-at.at c.in-Some.node c.in-Some.is _ _ c.next-at-in-Some.ensures v.after v.next).0

pub loop-at-preserved : goal.loop-at-preserved
loop-at-preserved g t c =
    let f = g.N.Nodes.trees c.args.nodes.now in
    let i = c.loop-at.invariant in
    let l = c.in-Some.node.label in
    let there = c.valid.ensures.here c.in-Some.node (rw c.in-Some.is at i.held) in
    let v = come_at c.valid.ensures c.loop-at.at c.in-Some.node c.content-content.result.now c.in-Some.is i.held i.inner c.content-content.ensures in
    let after = leads_on f c.loop-at.at c.in-Some.node c.in-Some.is _ _ c.next-at-in-Some.ensures v.after v.next in
    record {
      held = c.next-at-in-Some.ensures.held;
      inner = after.1;
      fewer = omega (arith, after.0, i.fewer);
      start = tt;
      end = rw c.passed-in-Some.ensures (there_passed f c.loop-at.end i.end);
      shown = rw c.passed-in-Some.ensures
          (shown_more g.V.Visitor.entered g.V.Visitor.left f c.valid.ensures.distinct l c.content-content.result.now there c.content-content.ensures v c.loop-at.start c.loop-at.end (label c.loop-at.at) (ap label c.in-Some.is)
          (sym c.is_over.ensures ∙ c.if-is_over.false) (sym c.is_ahead.ensures ∙ c.if-is_ahead.false) (sym c.stands_in.ensures ∙ c.if-stands_in.false)
          (label c.first_child-child.result) (label c.next-at-in-Some.result) c.first_child-child.ensures.is c.next-at-in-Some.ensures.is c.loop-at.visitor c.enter_part.new.self c.walk_between.new.visitor c.leave.new.self _ i.shown
          (rw (← c.lower.ensures, ← c.upper.ensures) c.in_ok-enter_part.ensures.ok)
          (rw (← c.below.ensures, ← c.below-in-Some.ensures) c.in_ok-walk_between.ensures.ok)
          c.in_ok-leave.ensures.ok (g.met.V.PartVisitor.leaves_parts c.walk_between.new.visitor l _ _ c.content-content.result.now));
    }
