use Rattle.std.proofs.Common.{refl, arith}
use Rattle.node_arena.proofs.CountsOk.{falls, chars_next, chars_last}
use Rattle.node_arena.proofs.Arena.char_count.Goals as goal

pub overflow_add-count : goal.overflow_add-count
overflow_add-count c = (let r = chars_next c.args.self.now c.valid.ensures c.loop-next.count c.loop-next.at c.in-Some.next c.content-in-Some.result.now c.loop-next.invariant.place c.in-Some.ensures.found c.content-in-Some.ensures c.loop-next.invariant.sum in let e = c.words_length-count-in-Some.ensures in omega (arith, e, r.0))

pub loop-next-smaller : goal.loop-next-smaller
loop-next-smaller c = falls c.args.self.now c.valid.ensures c.loop-next.at c.in-Some.next c.loop-next.invariant.place c.in-Some.ensures.found

pub loop-next-preserved : goal.loop-next-preserved
loop-next-preserved c = record {
  place = c.in-Some.ensures.found.place;
  sum = (let r = chars_next c.args.self.now c.valid.ensures c.loop-next.count c.loop-next.at c.in-Some.next c.content-in-Some.result.now c.loop-next.invariant.place c.in-Some.ensures.found c.content-in-Some.ensures c.loop-next.invariant.sum in let e = c.words_length-count-in-Some.ensures in rw e r.1);
}

pub returns : goal.returns
returns c = let a = c.in_default.ensures.none in chars_last c.args.self.now c.valid.ensures c.loop-next.count c.loop-next.at c.loop-next.invariant.place (a refl) c.loop-next.invariant.sum
