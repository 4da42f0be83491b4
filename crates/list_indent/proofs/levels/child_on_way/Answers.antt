use Rattle.std.proofs.Common.{◌||◌, ℕ, Bool, sym, ap, ◌∙◌}
use Rattle.std.specs.Prelude.{find, ◌==◌}
use Rattle.edit_model.specs.DomModel.Forest.{is_label}
use Rattle.edit_model.specs.Gives.{label_of}
use Rattle.inline_value.proofs.EditDoc.Children.{first_child_is, child_held, next_child_is, next_smaller}
use Rattle.inline_value.proofs.EditActions.Children.{all_rest}
use Rattle.list_indent.specs.Outdenting.{child_on_way}
use Rattle.list_indent.proofs.Children.{find_here, find_next, find_none}
use Rattle.list_indent.proofs.levels.child_on_way.Goals as goal

pub loop-at-init : goal.loop-at-init
loop-at-init c =
    let d = c.args.doc.now in
    let test : ℕ → Bool = λ k. k == c.args.node.label || is_label (label_of c.args.below) k in
    record {
      held = c.first_child-at.ensures.held;
      inner = first_child_is d c.valid.ensures c.args.element c.requires c.first_child-at.result c.first_child-at.ensures;
      rest = ap (find test) (all_rest d c.valid.ensures c.args.element c.requires c.first_child-at.result c.first_child-at.ensures);
    }

pub returns-then-is_on_way : goal.returns-then-is_on_way
unfolding child_on_way
returns-then-is_on_way c =
    let d = c.args.doc.now in
    let i = c.loop-at.invariant in
    let test : ℕ → Bool = λ k. k == c.args.node.label || is_label (label_of c.args.below) k in
    record {
      is = sym (find_here d c.valid.ensures c.args.element test c.loop-at.at c.in-Some.child c.in-Some.is i.held i.inner (sym c.is_on_way.ensures ∙ c.if-is_on_way.true)) ∙ i.rest;
      held = child_held d c.valid.ensures c.args.element c.loop-at.at c.in-Some.child c.in-Some.is i.held i.inner;
    }

pub loop-at-smaller : goal.loop-at-smaller
loop-at-smaller c =
    let i = c.loop-at.invariant in
    next_smaller c.args.doc.now c.valid.ensures c.args.element c.loop-at.at c.in-Some.child c.in-Some.is i.held i.inner c.next-at.result c.next-at.ensures

pub loop-at-preserved : goal.loop-at-preserved
loop-at-preserved c =
    let d = c.args.doc.now in
    let i = c.loop-at.invariant in
    let test : ℕ → Bool = λ k. k == c.args.node.label || is_label (label_of c.args.below) k in
    record {
      held = c.next-at.ensures.held;
      inner = next_child_is d c.valid.ensures c.args.element c.loop-at.at c.in-Some.child c.in-Some.is i.held i.inner c.next-at.result c.next-at.ensures;
      rest = find_next d c.valid.ensures c.args.element test c.loop-at.at c.in-Some.child c.in-Some.is i.held i.inner (sym c.is_on_way.ensures ∙ c.if-is_on_way.false) c.next-at.result c.next-at.ensures ∙ i.rest;
    }

pub returns : goal.returns
unfolding child_on_way
returns c =
    let test : ℕ → Bool = λ k. k == c.args.node.label || is_label (label_of c.args.below) k in
    record {
      is = sym (find_none c.args.doc.now test c.loop-at.at c.in_default.is) ∙ c.loop-at.invariant.rest;
      held = tt;
    }
