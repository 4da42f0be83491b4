use Rattle.std.proofs.Common.{◌&&◌, refl, sym, ap, ◌∙◌, arith}
use Rattle.std.specs.List.{list_any}
use Rattle.edit_model.proofs.DomModel.Within.{depth_of-parent}
use Rattle.wrap_split.specs.NodeStyles.Allowed.{allowed_in}
use Rattle.edit_model.specs.Confined.{is_inside}
use Rattle.inline_value.specs.Ancestors.{has_place}
use Rattle.inline_value.proofs.Givers.{no_ancestors, ancestors_above}
use Rattle.inline_value.proofs.Above.{any_found, any_passed}
use Rattle.inline_value.proofs.ancestors.has_place.Goals as goal

pub loop-parent-init : goal.loop-parent-init
unfolding has_place
loop-parent-init c = record { held = c.requires; rest = refl }

pub returns-then-takes : goal.returns-then-takes
returns-then-takes c =
    let s = c.args.doc.now.state in
    any_found (λ a. is_inside s a && allowed_in s.trees c.args.node.label a) c.in-Some.parent.label _ _ _
    (ancestors_above s.trees c.valid.ensures.valid.forest.distinct c.loop-parent.at.label c.loop-parent.invariant.held.here c.in-Some.parent.label (sym c.in-Some.ensures.is))
    (sym c.takes.ensures ∙ c.if-takes.true) c.loop-parent.invariant.rest

pub loop-parent-smaller : goal.loop-parent-smaller
loop-parent-smaller c =
    omega (arith, depth_of-parent c.args.doc.now.state.trees c.loop-parent.at.label c.in-Some.parent.label c.valid.ensures.valid.forest.distinct (sym c.in-Some.ensures.is))

pub loop-parent-preserved : goal.loop-parent-preserved
loop-parent-preserved c =
    let s = c.args.doc.now.state in
    record {
      held = c.in-Some.ensures.held;
      rest =
          any_passed (λ a. is_inside s a && allowed_in s.trees c.args.node.label a) c.in-Some.parent.label _ _ _
          (ancestors_above s.trees c.valid.ensures.valid.forest.distinct c.loop-parent.at.label c.loop-parent.invariant.held.here c.in-Some.parent.label (sym c.in-Some.ensures.is))
          (sym c.takes.ensures ∙ c.if-takes.false) c.loop-parent.invariant.rest;
    }

pub returns : goal.returns
returns c =
    let s = c.args.doc.now.state in
    sym (ap (list_any (λ a. is_inside s a && allowed_in s.trees c.args.node.label a)) (no_ancestors s.trees c.valid.ensures.valid.forest.distinct c.loop-parent.at.label c.loop-parent.invariant.held.here (sym c.in_default.ensures.is)))
    ∙ c.loop-parent.invariant.rest
