use Rattle.std.proofs.Common.{◌≤◌, ◌-◌, length, arith}
use Rattle.std.proofs.lemmas.List.{length-drop}
use Rattle.edit_model.proofs.Steps.{exit}
use Rattle.inline_value.proofs.EditDoc.Chosen.{keeps_both}
use Rattle.list_indent.specs.Commands.{goes_on_items, outdent_series, outdent_nodes}
use Rattle.inline_value.proofs.EditQuery.Lists.{tail_is}
use Rattle.list_indent.proofs.Series.{turn_done, turn_fails}
use Rattle.list_indent.proofs.commands.outdent_nodes.Goals as goal

pub loop-at-preserved : goal.loop-at-preserved
loop-at-preserved c =
    let i = c.loop-at.invariant in
    let xs = c.args.list.now in
    let at = c.loop-at.at in
    let n = c.count_series-count.result in
    let within : n ≤ length xs - at = rw (tail_is xs at, length-drop at xs) at c.count_series-count.ensures.within in (
      omega (arith, within, c.loop-at-test.true),
      (
        turn_done goes_on_items outdent_series xs c.in_ok-series.series at n c.loop-at.doc.state c.loop-at-test.true c.count_series-count.ensures.count c.in_ok-series.ensures c.outdent_series.new.doc.state _ c.in_ok-outdent_series.ensures.gives.0 i.1.0,
        keeps_both c.args.doc.now c.loop-at.doc c.outdent_series.new.doc i.1.1 c.outdent_series.ensures.keeps,
      ),
    )

pub returns-in_err-outdent_series-clause-gives : goal.returns-in_err-outdent_series-clause-gives
unfolding outdent_nodes
returns-in_err-outdent_series-clause-gives c =
    let fails = turn_fails goes_on_items outdent_series c.args.list.now c.in_ok-series.series c.loop-at.at c.count_series-count.result c.loop-at.doc.state c.loop-at-test.true c.count_series-count.ensures.count c.in_ok-series.ensures c.in_err-outdent_series.field-0.0 _ c.in_err-outdent_series.ensures.gives c.loop-at.invariant.1.0 in
    exit c.from_residual-in_err-outdent_series.result c.in_err-outdent_series.field-0.0 c.args.doc.now.state c.outdent_series.new.doc.state _ c.from_residual-in_err-outdent_series.ensures.1 fails
