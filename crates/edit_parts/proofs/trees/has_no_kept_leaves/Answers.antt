use Rattle.std.proofs.Common.{refl, sym, arith}
use Rattle.edit_parts.proofs.Below.{top_in, falls}
use Rattle.edit_parts.proofs.Bearing.{bearing, bearing_none, bearing_next, bears_some, bears_none}
use Rattle.edit_parts.proofs.trees.has_no_kept_leaves.Goals as goal

pub returns-then-bears : goal.returns-then-bears
returns-then-bears c =
    bearing c.args.arena.now c.valid.ensures c.args.top c.requires (record { node = c.args.top; depth = 0 }) c.content.result.now (top_in c.args.arena.now c.valid.ensures c.args.top c.requires) c.content.ensures (bears_some c.args.top.label _ _ c.if-bears.ensures refl) refl

pub loop-next-init : goal.loop-next-init
loop-next-init c = record {
  place = top_in c.args.arena.now c.valid.ensures c.args.top c.requires;
  none = λ d e. bears_none c.args.top.label d c.content.result.now c.if-bears.ensures (let t = c.content.ensures in cc);
  same = refl;
}

pub returns-then-bears-2 : goal.returns-then-bears-2
returns-then-bears-2 c =
    bearing c.args.arena.now c.valid.ensures c.args.top c.requires c.in-Some.next c.content-in-Some.result.now c.in-Some.ensures.found.place c.content-in-Some.ensures (bears_some c.in-Some.next.node.label _ _ c.if-bears-2.ensures refl)
    (bearing_next c.args.arena.now c.valid.ensures c.args.top c.requires c.loop-next.at c.in-Some.next c.loop-next.invariant.place c.in-Some.ensures.found c.loop-next.invariant.none c.loop-next.invariant.same)

pub loop-next-smaller : goal.loop-next-smaller
loop-next-smaller c = falls c.args.arena.now c.valid.ensures c.args.top c.requires c.loop-next.at c.in-Some.next c.loop-next.invariant.place c.in-Some.ensures.found

pub loop-next-preserved : goal.loop-next-preserved
loop-next-preserved c = record {
  place = c.in-Some.ensures.found.place;
  none = λ d e. bears_none c.in-Some.next.node.label d c.content-in-Some.result.now c.if-bears-2.ensures (let t = c.content-in-Some.ensures in cc);
  same = bearing_next c.args.arena.now c.valid.ensures c.args.top c.requires c.loop-next.at c.in-Some.next c.loop-next.invariant.place c.in-Some.ensures.found c.loop-next.invariant.none c.loop-next.invariant.same;
}

pub returns : goal.returns
returns c = let a = c.in_default.ensures.none in bearing_none c.args.arena.now c.valid.ensures c.args.top c.requires c.loop-next.at c.loop-next.invariant.place (a refl) c.loop-next.invariant.none c.loop-next.invariant.same
