use Rattle.std.proofs.Common.{sym, ap, ◌∙◌, true≢false}
use Rattle.inline_value.proofs.EditDoc.Children.{none_held, pushed_held}
use Rattle.inline_value.proofs.EditQuery.Hosting.{found_inside}
use Rattle.inline_value.specs.Forcing.{ancestors}
use Rattle.list_indent.specs.Outdenting.{is_passed, climb, way_by}
use Rattle.inline_value.proofs.Above.{ancestors_from}
use Rattle.list_indent.proofs.Ancestors.{none_passed, none_next, stop_passed, stop_next, on_passed, on_next, lower, passed_editable}
use Rattle.list_indent.proofs.outdenting.way_by.Goals as goal

pub loop-at-init : goal.loop-at-init
loop-at-init c =
    let d = c.args.doc.now in
    let test = is_passed c.args.simple d.state in
    let whole = ancestors_from d.state.trees c.valid.ensures.valid.forest.distinct c.args.node.label c.requires.here in
    record {
      held = c.parent-at.ensures.held;
      inside = λ on. absurd (true≢false (sym on));
      each = none_held d c.new-passed.result.items c.new-passed.ensures.items;
      made = rw (c.new-passed.ensures.items, c.parent-at.ensures.is) (ap (λ line. (climb test line).0) (sym whole));
      next = rw c.parent-at.ensures.is (ap (λ line. (climb test line).1) (sym whole));
    }

pub is_passed-requires-clause-known : goal.is_passed-requires-clause-known
is_passed-requires-clause-known c = λ on. rw c.in-Some.is at (c.loop-at.invariant.inside on)

pub returns-then-not-is_passed-clause-passed : goal.returns-then-not-is_passed-clause-passed
unfolding way_by
returns-then-not-is_passed-clause-passed c =
    let d = c.args.doc.now in
    let test = is_passed c.args.simple d.state in
    let i = c.loop-at.invariant in
    stop_passed d test c.loop-at.passed.items (climb test (ancestors d.state.trees c.args.node.label)) c.valid.ensures c.loop-at.at c.in-Some.ancestor c.in-Some.is i.held (sym c.is_passed.ensures ∙ c.if-not-is_passed.true) i.made

pub returns-then-not-is_passed-clause-next : goal.returns-then-not-is_passed-clause-next
unfolding way_by
returns-then-not-is_passed-clause-next c =
    let d = c.args.doc.now in
    let test = is_passed c.args.simple d.state in
    let i = c.loop-at.invariant in
    record {
      is = stop_next d test c.loop-at.passed.items (climb test (ancestors d.state.trees c.args.node.label)) c.valid.ensures c.loop-at.at c.in-Some.ancestor c.in-Some.is i.held (sym c.is_passed.ensures ∙ c.if-not-is_passed.true) i.next;
      held = rw c.in-Some.is at i.held;
    }

pub loop-at-smaller : goal.loop-at-smaller
loop-at-smaller c =
    let d = c.args.doc.now in
    let test = is_passed c.args.simple d.state in
    lower d test c.loop-at.passed.items (climb test (ancestors d.state.trees c.args.node.label)) c.valid.ensures c.loop-at.at c.in-Some.ancestor c.in-Some.is c.loop-at.invariant.held c.parent-at-in-Some.result c.parent-at-in-Some.ensures

pub loop-at-preserved : goal.loop-at-preserved
loop-at-preserved c =
    let d = c.args.doc.now in
    let test = is_passed c.args.simple d.state in
    let i = c.loop-at.invariant in
    let r = c.in-Some.ancestor in
    let whole = climb test (ancestors d.state.trees c.args.node.label) in
    let so = sym c.is_passed.ensures ∙ c.if-not-is_passed.false in
    record {
      held = c.parent-at-in-Some.ensures.held;
      inside = λ _. found_inside d.state c.valid.ensures.valid.forest.distinct r.label (passed_editable c.args.simple d.state r.label so) c.parent-at-in-Some.result c.parent-at-in-Some.ensures.is;
      each = pushed_held d c.loop-at.passed.items _ r i.each (rw c.in-Some.is at i.held) c.in_ok-push.ensures.items;
      made = on_passed d test c.loop-at.passed.items whole c.valid.ensures c.loop-at.at r c.in-Some.is i.held so c.parent-at-in-Some.result c.parent-at-in-Some.ensures _ c.in_ok-push.ensures.items i.made;
      next = on_next d test c.loop-at.passed.items whole c.valid.ensures c.loop-at.at r c.in-Some.is i.held so c.parent-at-in-Some.result c.parent-at-in-Some.ensures i.next;
    }

pub returns-clause-passed : goal.returns-clause-passed
unfolding way_by
returns-clause-passed c =
    let d = c.args.doc.now in
    let test = is_passed c.args.simple d.state in
    none_passed d test c.loop-at.passed.items (climb test (ancestors d.state.trees c.args.node.label)) c.loop-at.at c.in_default.is c.loop-at.invariant.made

pub returns-clause-next : goal.returns-clause-next
unfolding way_by
returns-clause-next c =
    let d = c.args.doc.now in
    let test = is_passed c.args.simple d.state in
    record {
      is = sym (none_next d test c.loop-at.passed.items (climb test (ancestors d.state.trees c.args.node.label)) c.loop-at.at c.in_default.is c.loop-at.invariant.next);
      held = tt;
    }
