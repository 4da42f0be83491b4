use Rattle.std.proofs.Common.{◌<◌, ap, arith}
use Rattle.node_styles.specs.NodeArena.Held.{label}
use Rattle.page_write.proofs.NodePaths.Visiting.{size_from}
use Rattle.node_texts.proofs.Visiting.{come_at, leads_on, short_content, shown_on}
use Rattle.node_texts.proofs.walk.+walk_from.Goals as goal

pub enter-requires : goal.enter-requires
enter-requires g t c =
    let held = rw c.in-Some.is at c.loop-at.invariant.held in
    record { short = short_content c.valid.ensures c.in-Some.node _ held c.content-content.ensures }

pub walk_from-requires : goal.walk_from-requires
walk_from-requires g t c κs within =
    let f = g.N.Nodes.trees c.args.nodes.now in
    let i = c.loop-at.invariant in
    let v = come_at c.valid.ensures c.loop-at.at c.in-Some.node c.content-content.result.now c.in-Some.is i.held i.inner c.content-content.ensures in
    let below = leads_on f c.loop-at.at c.in-Some.node c.in-Some.is _ _ c.first_child.ensures v.below v.first in
    let whole = c.decreases in
    let smaller : size_from f (label c.first_child.result) < t = omega (arith, below.0, i.fewer, whole) in
    (smaller, (within.0, (within.1, (c.first_child.ensures.held, below.1))))

pub loop-at-smaller : goal.loop-at-smaller
loop-at-smaller g t c =
    let f = g.N.Nodes.trees c.args.nodes.now in
    let i = c.loop-at.invariant in
    let v = come_at c.valid.ensures c.loop-at.at c.in-Some.node c.content-content.result.now c.in-Some.is i.held i.inner c.content-content.ensures in
    (leads_on f c.loop-at.at c.in-Some.node c.in-Some.is _ _ c.next-at.ensures v.after v.next).0

pub loop-at-preserved : goal.loop-at-preserved
loop-at-preserved g t c =
    let f = g.N.Nodes.trees c.args.nodes.now in
    let i = c.loop-at.invariant in
    let v = come_at c.valid.ensures c.loop-at.at c.in-Some.node c.content-content.result.now c.in-Some.is i.held i.inner c.content-content.ensures in
    let after = leads_on f c.loop-at.at c.in-Some.node c.in-Some.is _ _ c.next-at.ensures v.after v.next in
    record {
      held = c.next-at.ensures.held;
      inner = after.1;
      fewer = omega (arith, after.0, i.fewer);
      shown = shown_on g.V.Visitor.entered g.V.Visitor.left f c.in-Some.node.label _ v _ _ _ c.first_child.ensures.is c.next-at.ensures.is (ap label c.in-Some.is)
          _ _ _ _ _ i.shown c.in_ok-enter.ensures.ok c.in_ok-walk_from.ensures.ok c.in_ok-leave.ensures.ok;
    }
