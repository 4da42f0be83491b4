use Rattle.std.proofs.Common.{◌≡◌, ◌+◌, ◌||◌, suc, sym, ap, ◌∙◌, arith}
use Rattle.live_range.specs.LivePoints.{option_labels}
use Rattle.live_range.specs.PointsEdit.{has_label}
use Rattle.live_range.proofs.RowLabels.{all_pairs, first_pairs, found_among, more_pairs}
use Rattle.live_range.proofs.standing.stands_in.Goals as goal

pub loop-number-preserved : goal.loop-number-preserved
loop-number-preserved c =
    let p = c.args.places.now in
    let l = c.args.label in
    let k = c.loop-number.number in
    let next : k + 1 ≡ suc k = omega arith in
    ap (λ n. has_label (first_pairs p n) l) next ∙ more_pairs p l k
    ∙ (λ i. c.loop-number.invariant i || (ap (λ o. has_label (option_labels o) l) (sym c.pair_of.ensures) ∙ sym c.is_at.ensures ∙ c.if-is_at.false) i)

pub returns-then-is_at : goal.returns-then-is_at
returns-then-is_at c =
    let p = c.args.places.now in
    let l = c.args.label in
    sym (found_among p l c.loop-number.number (omega (arith, c.loop-number-test.true)) (ap (λ o. has_label (option_labels o) l) (sym c.pair_of.ensures) ∙ sym c.is_at.ensures ∙ c.if-is_at.true))

pub returns : goal.returns
returns c =
    let p = c.args.places.now in
    let l = c.args.label in
    sym c.loop-number.invariant ∙ ap (λ ls. has_label ls l) (all_pairs p c.loop-number.number (omega (arith, c.loop-number-test.false)))
