use Rattle.std.proofs.Common.{refl, sym, ap, ◌∙◌, arith}
use Rattle.std.specs.Prelude.{is_some}
use Rattle.std.specs.List.{list_any}
use Rattle.edit_model.proofs.DomModel.Within.{depth_of-parent}
use Rattle.wrap_split.specs.CommandValue.SpecifiedValues.{specified}
use Rattle.inline_value.specs.Pushing.{is_given_above}
use Rattle.inline_value.proofs.Givers.{no_ancestors, ancestors_above}
use Rattle.inline_value.proofs.Above.{any_found, any_passed}
use Rattle.inline_value.proofs.pushing.is_given_above.Goals as goal

pub loop-parent-init : goal.loop-parent-init
unfolding is_given_above
loop-parent-init c = record { held = c.requires; rest = refl }

pub returns-then-specifies : goal.returns-then-specifies
returns-then-specifies c =
    let f = c.args.doc.now.state.trees in
    any_found (λ e. is_some (specified f e c.args.command)) c.in-Some.parent.label _ _ _
    (ancestors_above f c.valid.ensures.valid.forest.distinct c.loop-parent.at.label c.loop-parent.invariant.held.here c.in-Some.parent.label (sym c.in-Some.ensures.is))
    (sym c.specifies.ensures ∙ c.if-specifies.true) c.loop-parent.invariant.rest

pub loop-parent-smaller : goal.loop-parent-smaller
loop-parent-smaller c =
    omega (arith, depth_of-parent c.args.doc.now.state.trees c.loop-parent.at.label c.in-Some.parent.label c.valid.ensures.valid.forest.distinct (sym c.in-Some.ensures.is))

pub loop-parent-preserved : goal.loop-parent-preserved
loop-parent-preserved c =
    let f = c.args.doc.now.state.trees in
    record {
      held = c.in-Some.ensures.held;
      rest =
          any_passed (λ e. is_some (specified f e c.args.command)) c.in-Some.parent.label _ _ _
          (ancestors_above f c.valid.ensures.valid.forest.distinct c.loop-parent.at.label c.loop-parent.invariant.held.here c.in-Some.parent.label (sym c.in-Some.ensures.is))
          (sym c.specifies.ensures ∙ c.if-specifies.false) c.loop-parent.invariant.rest;
    }

pub returns : goal.returns
returns c =
    let f = c.args.doc.now.state.trees in
    sym (ap (list_any (λ e. is_some (specified f e c.args.command))) (no_ancestors f c.valid.ensures.valid.forest.distinct c.loop-parent.at.label c.loop-parent.invariant.held.here (sym c.in_default.ensures.is)))
    ∙ c.loop-parent.invariant.rest
