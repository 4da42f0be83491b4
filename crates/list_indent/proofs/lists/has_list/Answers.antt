use Rattle.std.proofs.Common.{sym, ap, ◌∙◌}
use Rattle.std.specs.List.{list_any}
use Rattle.inline_value.proofs.EditDoc.Children.{first_child_is, next_child_is, next_smaller}
use Rattle.inline_value.proofs.EditActions.Children.{all_rest}
use Rattle.list_indent.specs.Sublists.{is_list}
use Rattle.list_indent.proofs.Children.{any_here, any_next, any_none}
use Rattle.list_indent.proofs.lists.has_list.Goals as goal

pub loop-at-init : goal.loop-at-init
loop-at-init c =
    let d = c.args.doc.now in
    record {
      held = c.first_child-at.ensures.held;
      inner = first_child_is d c.valid.ensures c.args.node c.requires c.first_child-at.result c.first_child-at.ensures;
      rest = ap (list_any (is_list d.state)) (all_rest d c.valid.ensures c.args.node c.requires c.first_child-at.result c.first_child-at.ensures);
    }

pub returns-then-is_list : goal.returns-then-is_list
returns-then-is_list c =
    let d = c.args.doc.now in
    let i = c.loop-at.invariant in
    sym (any_here d c.valid.ensures c.args.node (is_list d.state) c.loop-at.at c.in-Some.child c.in-Some.is i.held i.inner (sym c.is_list.ensures ∙ c.if-is_list.true)) ∙ i.rest

pub loop-at-smaller : goal.loop-at-smaller
loop-at-smaller c =
    let i = c.loop-at.invariant in
    next_smaller c.args.doc.now c.valid.ensures c.args.node c.loop-at.at c.in-Some.child c.in-Some.is i.held i.inner c.next-at.result c.next-at.ensures

pub loop-at-preserved : goal.loop-at-preserved
loop-at-preserved c =
    let d = c.args.doc.now in
    let i = c.loop-at.invariant in
    record {
      held = c.next-at.ensures.held;
      inner = next_child_is d c.valid.ensures c.args.node c.loop-at.at c.in-Some.child c.in-Some.is i.held i.inner c.next-at.result c.next-at.ensures;
      rest = any_next d c.valid.ensures c.args.node (is_list d.state) c.loop-at.at c.in-Some.child c.in-Some.is i.held i.inner (sym c.is_list.ensures ∙ c.if-is_list.false) c.next-at.result c.next-at.ensures ∙ i.rest;
    }

pub returns : goal.returns
returns c = sym (any_none c.args.doc.now (is_list c.args.doc.now.state) c.loop-at.at c.in_default.is) ∙ c.loop-at.invariant.rest
