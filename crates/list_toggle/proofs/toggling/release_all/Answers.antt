use Rattle.std.proofs.Common.{◌≤◌, ◌-◌, length, arith}
use Rattle.std.proofs.lemmas.List.{length-drop}
use Rattle.edit_model.proofs.Steps.{exit}
use Rattle.inline_value.proofs.EditDoc.Chosen.{keeps_both}
use Rattle.inline_value.proofs.EditQuery.Lists.{tail_is}
use Rattle.list_indent.proofs.Series.{turn_done, turn_fails}
use Rattle.list_toggle.specs.Toggle.{goes_on_out, release_series, release_all}
use Rattle.list_toggle.proofs.toggling.release_all.Goals as goal

pub loop-at-preserved : goal.loop-at-preserved
loop-at-preserved c =
    let i = c.loop-at.invariant in
    let xs = c.args.list.now in
    let at = c.loop-at.at in
    let n = c.count_series-count.result in
    let within : n ≤ length xs - at = rw (tail_is xs at, length-drop at xs) at c.count_series-count.ensures.within in (
      omega (arith, within, c.loop-at-test.true),
      (
        turn_done (goes_on_out c.args.ordered) (release_series c.args.ordered) xs c.in_ok-series.series at n c.loop-at.doc.state c.loop-at-test.true c.count_series-count.ensures.count c.in_ok-series.ensures c.release_series.new.doc.state _ c.in_ok-release_series.ensures.gives.0 i.1.0,
        keeps_both c.args.doc.now c.loop-at.doc c.release_series.new.doc i.1.1 c.release_series.ensures.keeps,
      ),
    )

pub returns-in_err-release_series-clause-gives : goal.returns-in_err-release_series-clause-gives
unfolding release_all
returns-in_err-release_series-clause-gives c =
    let fails = turn_fails (goes_on_out c.args.ordered) (release_series c.args.ordered) c.args.list.now c.in_ok-series.series c.loop-at.at c.count_series-count.result c.loop-at.doc.state c.loop-at-test.true c.count_series-count.ensures.count c.in_ok-series.ensures c.in_err-release_series.field-0.0 _ c.in_err-release_series.ensures.gives c.loop-at.invariant.1.0 in
    exit c.from_residual-in_err-release_series.result c.in_err-release_series.field-0.0 c.args.doc.now.state c.release_series.new.doc.state _ c.from_residual-in_err-release_series.ensures.1 fails
