use Rattle.std.proofs.Common.{not, sym, ap, ◌∙◌}
use Rattle.inline_value.proofs.EditDoc.Children.{child_held}
use Rattle.inline_value.proofs.WrapSplit.Children.{prev_child_is, prev_smaller, last_here, last_next, last_none}
use Rattle.list_indent.proofs.Children.{holder, shown_from, before_is_child}
use Rattle.list_indent.proofs.commands.shown_before.Goals as goal

pub loop-at-init : goal.loop-at-init
loop-at-init c =
    let d = c.args.doc.now in
    record {
      held = c.prev-at.ensures.held;
      inner = before_is_child d c.valid.ensures c.args.node c.prev-at.result c.prev-at.ensures;
      front = shown_from d c.valid.ensures c.args.node c.prev-at.result c.prev-at.ensures;
    }

pub is_visible-requires : goal.is_visible-requires
is_visible-requires c =
    let d = c.args.doc.now in
    let i = c.loop-at.invariant in
    child_held d c.valid.ensures (holder d c.args.node) c.loop-at.at c.in-Some.sibling c.in-Some.is i.held i.inner

pub returns-then-is_visible : goal.returns-then-is_visible
returns-then-is_visible c =
    let d = c.args.doc.now in
    let i = c.loop-at.invariant in
    record {
      is = sym (last_here d c.valid.ensures (holder d c.args.node) c.loop-at.at c.in-Some.sibling c.in-Some.is i.held i.inner (ap not (sym c.is_visible.ensures ∙ c.if-is_visible.true))) ∙ i.front;
      held = child_held d c.valid.ensures (holder d c.args.node) c.loop-at.at c.in-Some.sibling c.in-Some.is i.held i.inner;
    }

pub loop-at-smaller : goal.loop-at-smaller
loop-at-smaller c =
    let d = c.args.doc.now in
    let i = c.loop-at.invariant in
    prev_smaller d c.valid.ensures (holder d c.args.node) c.loop-at.at c.in-Some.sibling c.in-Some.is i.held i.inner c.prev-at-in-Some.result c.prev-at-in-Some.ensures

pub loop-at-preserved : goal.loop-at-preserved
loop-at-preserved c =
    let d = c.args.doc.now in
    let i = c.loop-at.invariant in
    let s = c.in-Some.sibling in
    record {
      held = c.prev-at-in-Some.ensures.held;
      inner = prev_child_is d c.valid.ensures (holder d c.args.node) c.loop-at.at s c.in-Some.is i.held i.inner c.prev-at-in-Some.result c.prev-at-in-Some.ensures;
      front = last_next d c.valid.ensures (holder d c.args.node) c.loop-at.at s c.in-Some.is i.held i.inner (ap not (sym c.is_visible.ensures ∙ c.if-is_visible.false)) c.prev-at-in-Some.result c.prev-at-in-Some.ensures ∙ i.front;
    }

pub returns : goal.returns
returns c = record {
  is = sym (last_none c.args.doc.now (holder c.args.doc.now c.args.node) c.loop-at.at c.in_default.is) ∙ c.loop-at.invariant.front;
  held = tt;
}
