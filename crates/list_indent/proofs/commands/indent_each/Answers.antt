use Rattle.std.proofs.Common.{◌≤◌, ◌-◌, length, arith}
use Rattle.std.proofs.lemmas.List.{length-drop}
use Rattle.edit_model.proofs.Steps.{exit}
use Rattle.inline_value.proofs.EditDoc.Chosen.{keeps_both}
use Rattle.list_indent.specs.Indenting.{indent_list}
use Rattle.list_indent.specs.Commands.{goes_on}
use Rattle.inline_value.proofs.EditQuery.Lists.{tail_is}
use Rattle.list_indent.proofs.Series.{turn_done, turn_fails}
use Rattle.list_indent.proofs.commands.indent_each.Goals as goal

pub loop-at-preserved : goal.loop-at-preserved
loop-at-preserved c =
    let i = c.loop-at.invariant in
    let xs = c.args.list.now in
    let at = c.loop-at.at in
    let n = c.count_series-count.result in
    let within : n ≤ length xs - at = rw (tail_is xs at, length-drop at xs) at c.count_series-count.ensures.within in (
      omega (arith, within, c.loop-at-test.true),
      (
        turn_done goes_on indent_list xs c.in_ok-series.series at n c.loop-at.doc.state c.loop-at-test.true c.count_series-count.ensures.count c.in_ok-series.ensures c.indent_list.new.doc.state _ c.in_ok-indent_list.ensures.gives.0 i.1.0,
        keeps_both c.args.doc.now c.loop-at.doc c.indent_list.new.doc i.1.1 c.indent_list.ensures.keeps,
      ),
    )

pub returns-in_err-indent_list-clause-gives : goal.returns-in_err-indent_list-clause-gives
returns-in_err-indent_list-clause-gives c =
    let fails = turn_fails goes_on indent_list c.args.list.now c.in_ok-series.series c.loop-at.at c.count_series-count.result c.loop-at.doc.state c.loop-at-test.true c.count_series-count.ensures.count c.in_ok-series.ensures c.in_err-indent_list.field-0.0 _ c.in_err-indent_list.ensures.gives c.loop-at.invariant.1.0 in
    exit c.from_residual-in_err-indent_list.result c.in_err-indent_list.field-0.0 c.args.doc.now.state c.indent_list.new.doc.state _ c.from_residual-in_err-indent_list.ensures.1 fails
