use Rattle.std.proofs.Common.{sym, ◌∙◌}
use Rattle.inline_value.proofs.EditDoc.Children.{first_child_is, next_child_is, next_smaller}
use Rattle.delete_core.proofs.Shown.{none_shows, shows_first, shows_here, shows_next}
use Rattle.delete_core.proofs.erasing.shows_child.Goals as goal

pub loop-at-init : goal.loop-at-init
loop-at-init c =
    let d = c.args.doc.now in
    record {
      held = c.first_child-at.ensures.held;
      inner = first_child_is d c.valid.ensures c.args.node c.requires c.first_child-at.result c.first_child-at.ensures;
      same = shows_first d c.valid.ensures c.args.node c.requires c.first_child-at.result c.first_child-at.ensures;
    }

pub returns-then-is_visible : goal.returns-then-is_visible
returns-then-is_visible c =
    let i = c.loop-at.invariant in
    sym (shows_here c.args.doc.now c.valid.ensures c.args.node c.loop-at.at c.in-Some.child c.in-Some.is i.held i.inner (sym c.is_visible.ensures ∙ c.if-is_visible.true)) ∙ i.same

pub loop-at-smaller : goal.loop-at-smaller
loop-at-smaller c =
    let i = c.loop-at.invariant in
    next_smaller c.args.doc.now c.valid.ensures c.args.node c.loop-at.at c.in-Some.child c.in-Some.is i.held i.inner c.next-at.result c.next-at.ensures

pub loop-at-preserved : goal.loop-at-preserved
loop-at-preserved c =
    let d = c.args.doc.now in
    let i = c.loop-at.invariant in
    record {
      held = c.next-at.ensures.held;
      inner = next_child_is d c.valid.ensures c.args.node c.loop-at.at c.in-Some.child c.in-Some.is i.held i.inner c.next-at.result c.next-at.ensures;
      same = shows_next d c.valid.ensures c.args.node c.loop-at.at c.in-Some.child c.in-Some.is i.held i.inner (sym c.is_visible.ensures ∙ c.if-is_visible.false) c.next-at.result c.next-at.ensures ∙ i.same;
    }

pub returns : goal.returns
returns c = sym (none_shows c.args.doc.now c.loop-at.at c.in_default.is) ∙ c.loop-at.invariant.same
