use Rattle.std.proofs.Common.{rules, ◌+◌, ◌∙◌, sym, subst, arith}
use Rattle.live_range.proofs.RowLists.{ListsBelow, entered_more, none_more, all_listed}
use Rattle.live_range.proofs.listing.list_all.Goals.{in-Some, in-None}
use Rattle.live_range.proofs.listing.list_all.Goals as goal

pub loop-number-preserved : goal.loop-number-preserved
loop-number-preserved c =
    let p = c.args.places.now in
    let k = c.loop-number.number in
    record {
      listed =
          elim c.match-pair_of.branch as (λ _. ListsBelow p c.match-pair_of.nodes (k + 1)) [
            | in-Some w ↦
                subst (λ n. ListsBelow p n (k + 1)) (sym w.nodes-is)
                (entered_more p k c.loop-number.nodes w.enter_pair.new.nodes c.loop-number.invariant.listed w.in-Some.pair (sym c.pair_of.ensures ∙ w.in-Some.is) w.enter_pair.ensures.listed)
            | in-None w ↦
                subst (λ n. ListsBelow p n (k + 1)) (sym w.nodes-is) (none_more p k c.loop-number.nodes c.loop-number.invariant.listed (sym c.pair_of.ensures ∙ w.in-None.is))
          ];
      few = search rules;
    }

pub returns-clause-listed : goal.returns-clause-listed
returns-clause-listed c = all_listed c.args.places.now c.loop-number.nodes (subst (λ k. ListsBelow c.args.places.now c.loop-number.nodes k) (omega arith) c.loop-number.invariant.listed)
