use Rattle.std.proofs.Common.{◌∙◌, Some, None, length, nat_eq, sym, ap, arith}
use Rattle.indexmap.specs.IndexSet.{insert_all}
use Rattle.live_range.specs.LivePoints.{option_labels}
use Rattle.live_range.proofs.RowLabels.{all_met, met_more}
use Rattle.live_range.proofs.standing.standing_labels.Goals.{in-Some, in-None}
use Rattle.live_range.proofs.standing.standing_labels.Goals as goal

pub loop-number-preserved : goal.loop-number-preserved
loop-number-preserved c =
    let p = c.args.places.now in
    let k = c.loop-number.number in
    elim c.match-pair_of.branch [
      | in-Some w ↦ (
          let pair = w.in-Some.pair in
          record {
            met =
                w.labels-is ∙ w.meet_pair.ensures.met ∙ ap (λ ls. insert_all nat_eq ls (option_labels (Some pair))) c.loop-number.invariant.met
                ∙ met_more p k (Some pair) (sym w.in-Some.is ∙ c.pair_of.ensures);
            few = omega (arith, ap length w.labels-is, w.meet_pair.ensures.few, c.loop-number.invariant.few);
          })
      | in-None w ↦ record {
        met = w.labels-is ∙ c.loop-number.invariant.met ∙ met_more p k None (sym w.in-None.is ∙ c.pair_of.ensures);
        few = omega (arith, ap length w.labels-is, c.loop-number.invariant.few);
      }
    ]

pub returns : goal.returns
returns c = c.loop-number.invariant.met ∙ all_met c.args.places.now c.loop-number.number (omega arith)
