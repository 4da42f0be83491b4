use Rattle.std.proofs.Common.{not, sym, ap, ◌∙◌}
use Rattle.edit_actions.proofs.EditDoc.Children.{first_child_is, child_held, next_child_is, next_smaller}
use Rattle.wrap_split.specs.Wrap.{first_visible}
use Rattle.edit_actions.proofs.Children.{all_rest}
use Rattle.wrap_split.proofs.Children.{first_here, first_next, first_none}
use Rattle.wrap_split.proofs.siblings.first_visible_child.Goals as goal

pub loop-at-init : goal.loop-at-init
loop-at-init c =
    let d = c.args.doc.now in
    record {
      held = c.first_child-at.ensures.held;
      inner = first_child_is d c.valid.ensures c.args.node c.requires c.first_child-at.result c.first_child-at.ensures;
      rest = ap (first_visible d.state) (all_rest d c.valid.ensures c.args.node c.requires c.first_child-at.result c.first_child-at.ensures);
    }

pub returns-then-is_visible : goal.returns-then-is_visible
returns-then-is_visible c =
    let d = c.args.doc.now in
    let i = c.loop-at.invariant in
    record {
      is = sym (first_here d c.valid.ensures c.args.node c.loop-at.at c.in-Some.child c.in-Some.is i.held i.inner (ap not (sym c.is_visible.ensures ∙ c.if-is_visible.true))) ∙ i.rest;
      held = child_held d c.valid.ensures c.args.node c.loop-at.at c.in-Some.child c.in-Some.is i.held i.inner;
    }

pub loop-at-smaller : goal.loop-at-smaller
loop-at-smaller c =
    let i = c.loop-at.invariant in
    next_smaller c.args.doc.now c.valid.ensures c.args.node c.loop-at.at c.in-Some.child c.in-Some.is i.held i.inner c.next-at.result c.next-at.ensures

pub loop-at-preserved : goal.loop-at-preserved
loop-at-preserved c =
    let d = c.args.doc.now in
    let i = c.loop-at.invariant in
    record {
      held = c.next-at.ensures.held;
      inner = next_child_is d c.valid.ensures c.args.node c.loop-at.at c.in-Some.child c.in-Some.is i.held i.inner c.next-at.result c.next-at.ensures;
      rest = first_next d c.valid.ensures c.args.node c.loop-at.at c.in-Some.child c.in-Some.is i.held i.inner (ap not (sym c.is_visible.ensures ∙ c.if-is_visible.false)) c.next-at.result c.next-at.ensures ∙ i.rest;
    }

pub returns : goal.returns
returns c = record {
  is = sym (first_none c.args.doc.now c.loop-at.at c.in_default.is) ∙ c.loop-at.invariant.rest;
  held = tt;
}
