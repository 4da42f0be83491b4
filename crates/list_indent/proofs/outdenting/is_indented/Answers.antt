use Rattle.std.proofs.Common.{◌||◌, sym, ap, ◌∙◌}
use Rattle.std.specs.List.{list_any}
use Rattle.edit_model.specs.DomModel.Forest.{parent_of}
use Rattle.inline_value.specs.NodeStyles.NameClasses.{is_indentation}
use Rattle.list_indent.specs.Gaps.{is_indented}
use Rattle.inline_value.proofs.Above.{from, ancestors_from, height_parent}
use Rattle.list_indent.proofs.Ancestors.{any_on}
use Rattle.list_indent.proofs.outdenting.is_indented.Goals as goal

pub loop-at-init : goal.loop-at-init
unfolding is_indented
loop-at-init c =
    let f = c.args.doc.now.state.trees in
    let whole = ancestors_from f c.valid.ensures.valid.forest.distinct c.args.node.label c.requires.here in
    record {
      held = c.parent-at.ensures.held;
      rest = rw c.parent-at.ensures.is (ap (list_any (is_indentation f)) (sym whole));
    }

pub returns-then-is_indentation : goal.returns-then-is_indentation
returns-then-is_indentation c =
    let f = c.args.doc.now.state.trees in
    let held = rw c.in-Some.is at c.loop-at.invariant.held in
    let rest = rw c.in-Some.is at c.loop-at.invariant.rest in
    let here = any_on f c.valid.ensures.valid.forest.distinct c.in-Some.ancestor.label held.here (is_indentation f) in
    let met = sym c.is_indentation.ensures ∙ c.if-is_indentation.true in
    sym (ap (λ b. b || list_any (is_indentation f) (from f (parent_of f c.in-Some.ancestor.label))) met) ∙ sym here ∙ rest

pub loop-at-smaller : goal.loop-at-smaller
loop-at-smaller c =
    rw (c.in-Some.is, c.parent-at-in-Some.ensures.is) (height_parent c.args.doc.now.state.trees c.valid.ensures.valid.forest.distinct c.in-Some.ancestor.label)

pub loop-at-preserved : goal.loop-at-preserved
loop-at-preserved c =
    let f = c.args.doc.now.state.trees in
    let held = rw c.in-Some.is at c.loop-at.invariant.held in
    let rest = rw c.in-Some.is at c.loop-at.invariant.rest in
    let here = any_on f c.valid.ensures.valid.forest.distinct c.in-Some.ancestor.label held.here (is_indentation f) in
    let off = sym c.is_indentation.ensures ∙ c.if-is_indentation.false in
    record {
      held = c.parent-at-in-Some.ensures.held;
      rest =
          ap (λ o. list_any (is_indentation f) (from f o)) c.parent-at-in-Some.ensures.is
          ∙ sym (here ∙ ap (λ b. b || list_any (is_indentation f) (from f (parent_of f c.in-Some.ancestor.label))) off)
          ∙ rest;
    }

pub returns : goal.returns
returns c = rw c.in_default.is at c.loop-at.invariant.rest
