use Rattle.std.proofs.Common.{refl, sym, ap, ◌∙◌, arith}
use Rattle.std.specs.List.{list_any}
use Rattle.edit_model.proofs.DomModel.Within.{depth_of-parent}
use Rattle.text_deletion.specs.Entries.{indents_line, has_indenter}
use Rattle.inline_value.proofs.Givers.{no_ancestors, ancestors_above}
use Rattle.text_deletion.proofs.Above.{found, passed}
use Rattle.text_deletion.proofs.outdents.has_indenter.Goals as goal

pub loop-parent-init : goal.loop-parent-init
unfolding has_indenter
loop-parent-init c = record { held = c.requires; rest = refl }

pub returns-then-indents_line : goal.returns-then-indents_line
returns-then-indents_line c =
    let s = c.args.doc.now.state in
    found (indents_line s) c.in-Some.parent.label _ _ _
    (ancestors_above s.trees c.valid.ensures.valid.forest.distinct c.loop-parent.at.label c.loop-parent.invariant.held.here c.in-Some.parent.label (sym c.in-Some.ensures.is))
    (sym c.indents_line.ensures ∙ c.if-indents_line.true) c.loop-parent.invariant.rest

pub loop-parent-smaller : goal.loop-parent-smaller
loop-parent-smaller c =
    omega (arith, depth_of-parent c.args.doc.now.state.trees c.loop-parent.at.label c.in-Some.parent.label c.valid.ensures.valid.forest.distinct (sym c.in-Some.ensures.is))

pub loop-parent-preserved : goal.loop-parent-preserved
loop-parent-preserved c =
    let s = c.args.doc.now.state in
    record {
      held = c.in-Some.ensures.held;
      rest =
          passed (indents_line s) c.in-Some.parent.label _ _ _
          (ancestors_above s.trees c.valid.ensures.valid.forest.distinct c.loop-parent.at.label c.loop-parent.invariant.held.here c.in-Some.parent.label (sym c.in-Some.ensures.is))
          (sym c.indents_line.ensures ∙ c.if-indents_line.false) c.loop-parent.invariant.rest;
    }

pub returns : goal.returns
returns c =
    let s = c.args.doc.now.state in
    sym (ap (list_any (indents_line s)) (no_ancestors s.trees c.valid.ensures.valid.forest.distinct c.loop-parent.at.label c.loop-parent.invariant.held.here (sym c.in_default.ensures.is)))
    ∙ c.loop-parent.invariant.rest
