use Rattle.edit_doc.proofs.Children.{none_held, pushed_held, first_child_is, first_made, child_held, next_child_is, next_smaller, next_made}
use Rattle.edit_doc.proofs.Doc.children_of.Goals as goal

pub loop-at-init : goal.loop-at-init
loop-at-init c =
    let d = c.args.self.now in
    record {
      held = c.first_child-at.ensures.held;
      inner = first_child_is d c.valid.ensures c.args.node c.requires c.first_child-at.result c.first_child-at.ensures;
      each = none_held d c.new-list.result.items c.new-list.ensures.items;
      made = first_made d c.valid.ensures c.args.node c.requires c.first_child-at.result c.first_child-at.ensures c.new-list.result.items c.new-list.ensures.items;
    }

pub loop-at-smaller : goal.loop-at-smaller
loop-at-smaller c =
    let i = c.loop-at.invariant in
    next_smaller c.args.self.now c.valid.ensures c.args.node c.loop-at.at c.in-Some.child c.in-Some.is i.held i.inner c.next-at.result c.next-at.ensures

pub loop-at-preserved : goal.loop-at-preserved
loop-at-preserved c =
    let d = c.args.self.now in
    let i = c.loop-at.invariant in
    record {
      held = c.next-at.ensures.held;
      inner = next_child_is d c.valid.ensures c.args.node c.loop-at.at c.in-Some.child c.in-Some.is i.held i.inner c.next-at.result c.next-at.ensures;
      each = pushed_held d c.loop-at.list.items _ c.in-Some.child i.each (child_held d c.valid.ensures c.args.node c.loop-at.at c.in-Some.child c.in-Some.is i.held i.inner) c.in_ok-push.ensures.items;
      made = next_made d c.valid.ensures c.args.node c.loop-at.at c.in-Some.child c.in-Some.is i.held i.inner c.next-at.result c.next-at.ensures c.loop-at.list.items _ _ i.made c.in_ok-push.ensures.items;
    }
