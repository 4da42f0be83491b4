use Rattle.std.proofs.Common.{refl, sym, subst}
use Rattle.node_arena.proofs.CountsOk.{High, Reached, falls, high_first, reached_first, high_next, reached_next, deepest_last}
use Rattle.node_arena.proofs.Arena.page_depth.Goals as goal

pub loop-next-init : goal.loop-next-init
loop-next-init c = record {
  place = c.document_place-at.ensures.place;
  high = high_first c.args.self.now c.valid.ensures c.document_place-at.result c.document_place-at.ensures.label;
  some = reached_first c.args.self.now c.valid.ensures;
}

pub loop-next-smaller : goal.loop-next-smaller
loop-next-smaller c = falls c.args.self.now c.valid.ensures c.loop-next.at c.in-Some.next c.loop-next.invariant.place c.in-Some.ensures.found

pub loop-next-preserved : goal.loop-next-preserved
loop-next-preserved c =
    let s = c.args.self.now in
    let law = c.valid.ensures in
    let is = sym c.max-deepest.ensures in
    record {
      place = c.in-Some.ensures.found.place;
      high = subst (λ d. High s law c.in-Some.next d) is (high_next s law c.loop-next.deepest c.loop-next.at c.in-Some.next c.loop-next.invariant.place c.in-Some.ensures.found c.loop-next.invariant.high);
      some = subst (λ d. Reached s law d) is (reached_next s law c.loop-next.deepest c.in-Some.next c.in-Some.ensures.found.place c.loop-next.invariant.some);
    }

pub returns : goal.returns
returns c = let a = c.in_default.ensures.none in deepest_last c.args.self.now c.valid.ensures c.loop-next.deepest c.loop-next.at c.loop-next.invariant.place (a refl) c.loop-next.invariant.high c.loop-next.invariant.some
