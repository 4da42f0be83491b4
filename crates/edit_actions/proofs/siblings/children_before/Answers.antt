use Rattle.std.proofs.Common.{◌++◌, sym, ap, ◌∙◌}
use Rattle.std.proofs.lemmas.List.{append-nil}
use Rattle.edit_model.specs.Gives.{labels_of}
use Rattle.edit_doc.proofs.Children.{none_held, pushed_held, first_child_is, child_held, next_child_is, next_smaller}
use Rattle.edit_actions.proofs.Children.{none_until, until_here, until_next, until_none}
use Rattle.edit_actions.proofs.siblings.children_before.Goals as goal

pub loop-at-init : goal.loop-at-init
loop-at-init c =
    let d = c.args.doc.now in
    record {
      held = c.first_child-at.ensures.held;
      inner = first_child_is d c.valid.ensures c.args.node c.requires c.first_child-at.result c.first_child-at.ensures;
      each = none_held d c.new-list.result.items c.new-list.ensures.items;
      made = none_until d c.valid.ensures c.args.node c.requires c.args.end c.first_child-at.result c.first_child-at.ensures c.new-list.result.items c.new-list.ensures.items;
    }

pub returns-then-child-end-clause-children : goal.returns-then-child-end-clause-children
returns-then-child-end-clause-children c =
    let i = c.loop-at.invariant in
    let none = until_here c.args.doc.now c.valid.ensures c.args.node c.loop-at.at c.in-Some.child c.in-Some.is i.held i.inner c.args.end c.if-child-end.true in
    sym (append-nil (labels_of c.loop-at.list.items)) ∙ (ap (λ xs. labels_of c.loop-at.list.items ++ xs) (sym none) ∙ i.made)

pub loop-at-smaller : goal.loop-at-smaller
loop-at-smaller c =
    let i = c.loop-at.invariant in
    next_smaller c.args.doc.now c.valid.ensures c.args.node c.loop-at.at c.in-Some.child c.in-Some.is i.held i.inner c.next-at.result c.next-at.ensures

pub loop-at-preserved : goal.loop-at-preserved
loop-at-preserved c =
    let d = c.args.doc.now in
    let i = c.loop-at.invariant in
    record {
      held = c.next-at.ensures.held;
      inner = next_child_is d c.valid.ensures c.args.node c.loop-at.at c.in-Some.child c.in-Some.is i.held i.inner c.next-at.result c.next-at.ensures;
      each = pushed_held d c.loop-at.list.items _ c.in-Some.child i.each (child_held d c.valid.ensures c.args.node c.loop-at.at c.in-Some.child c.in-Some.is i.held i.inner) c.in_ok-push.ensures.items;
      made = until_next d c.valid.ensures c.args.node c.loop-at.at c.in-Some.child c.in-Some.is i.held i.inner c.args.end c.if-child-end.false c.next-at.result c.next-at.ensures c.loop-at.list.items _ _ i.made c.in_ok-push.ensures.items;
    }

pub returns-clause-children : goal.returns-clause-children
returns-clause-children c =
    let none = until_none c.args.doc.now c.args.end c.loop-at.at c.in_default.is in
    sym (append-nil (labels_of c.loop-at.list.items)) ∙ (ap (λ xs. labels_of c.loop-at.list.items ++ xs) (sym none) ∙ c.loop-at.invariant.made)
