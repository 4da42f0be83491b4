use Rattle.std.proofs.Common.{refl}
use Rattle.edit_model.proofs.Steps.{exit}
use Rattle.inline_value.proofs.EditDoc.Chosen.{keeps_both}
use Rattle.inline_value.specs.Styling.{unset_style}
use Rattle.list_indent.proofs.Names.{names_end, name_done, name_fails}
use Rattle.list_indent.proofs.outdenting.unset_boxes.Goals as goal

pub returns-in_err-unset_style-clause-gives : goal.returns-in_err-unset_style-clause-gives
returns-in_err-unset_style-clause-gives c =
    let fails = name_fails c.box_names-names.result.now c.loop-name.name-index (unset_style c.args.node.label) c.loop-name.doc.state _ c.loop-name-test.true c.in_err-unset_style.field-0.0 _ c.in_err-unset_style.ensures.gives c.loop-name.invariant.0 in
    exit c.from_residual.result c.in_err-unset_style.field-0.0 c.args.doc.now.state c.unset_style.new.doc.state _ c.from_residual.ensures.1 fails

pub loop-name-preserved : goal.loop-name-preserved
loop-name-preserved c = (
  name_done c.box_names-names.result.now c.loop-name.name-index (unset_style c.args.node.label) c.loop-name.doc.state _ c.loop-name-test.true c.unset_style.new.doc.state _ c.in_ok-unset_style.ensures.gives.0 c.loop-name.invariant.0,
  keeps_both c.args.doc.now c.loop-name.doc c.unset_style.new.doc c.loop-name.invariant.1 c.unset_style.ensures.keeps,
)

pub returns-clause-gives : goal.returns-clause-gives
returns-clause-gives c =
    (names_end c.box_names-names.result.now c.loop-name.name-index (unset_style c.args.node.label) c.loop-name.doc.state _ c.loop-name-test.false c.loop-name.invariant.0, refl)
