use Rattle.std.proofs.Common.{not, sym, ap, ◌∙◌}
use Rattle.edit_actions.proofs.EditDoc.Children.{child_held}
use Rattle.wrap_split.specs.Wrap.{last_visible}
use Rattle.wrap_split.proofs.Children.{all_front, last_child_is, prev_child_is, prev_smaller, last_here, last_next, last_none}
use Rattle.wrap_split.proofs.siblings.last_visible_child.Goals as goal

pub loop-at-init : goal.loop-at-init
loop-at-init c =
    let d = c.args.doc.now in
    record {
      held = c.last_child-at.ensures.held;
      inner = last_child_is d c.valid.ensures c.args.node c.last_child-at.result c.last_child-at.ensures;
      front = ap (last_visible d.state) (all_front d c.valid.ensures c.args.node c.last_child-at.result c.last_child-at.ensures);
    }

pub returns-then-is_visible : goal.returns-then-is_visible
returns-then-is_visible c =
    let d = c.args.doc.now in
    let i = c.loop-at.invariant in
    record {
      is = sym (last_here d c.valid.ensures c.args.node c.loop-at.at c.in-Some.child c.in-Some.is i.held i.inner (ap not (sym c.is_visible.ensures ∙ c.if-is_visible.true))) ∙ i.front;
      held = child_held d c.valid.ensures c.args.node c.loop-at.at c.in-Some.child c.in-Some.is i.held i.inner;
    }

pub loop-at-smaller : goal.loop-at-smaller
loop-at-smaller c =
    let i = c.loop-at.invariant in
    prev_smaller c.args.doc.now c.valid.ensures c.args.node c.loop-at.at c.in-Some.child c.in-Some.is i.held i.inner c.prev-at.result c.prev-at.ensures

pub loop-at-preserved : goal.loop-at-preserved
loop-at-preserved c =
    let d = c.args.doc.now in
    let i = c.loop-at.invariant in
    record {
      held = c.prev-at.ensures.held;
      inner = prev_child_is d c.valid.ensures c.args.node c.loop-at.at c.in-Some.child c.in-Some.is i.held i.inner c.prev-at.result c.prev-at.ensures;
      front = last_next d c.valid.ensures c.args.node c.loop-at.at c.in-Some.child c.in-Some.is i.held i.inner (ap not (sym c.is_visible.ensures ∙ c.if-is_visible.false)) c.prev-at.result c.prev-at.ensures ∙ i.front;
    }

pub returns : goal.returns
returns c = record {
  is = sym (last_none c.args.doc.now c.args.node c.loop-at.at c.in_default.is) ∙ c.loop-at.invariant.front;
  held = tt;
}
