use Rattle.std.proofs.Common.{refl, sym, subst, arith}
use Rattle.edit_parts.proofs.Below.{top_in, shared, falls, node_next, node_last, chars_next, chars_last, High, Reached, high_first, reached_first, high_next, reached_next, depth_last}
use Rattle.edit_parts.proofs.trees.tree_counts.Goals as goal

pub loop-next-init : goal.loop-next-init
loop-next-init c =
    let s = c.args.arena.now in
    record {
      place = top_in s c.valid.ensures c.args.top c.requires;
      nodes = refl;
      chars = omega (arith, c.char_count-chars.ensures, shared s c.valid.ensures c.args.top c.requires (record { node = c.args.top; depth = 0 }) c.content.result.now c.content.ensures);
      high = high_first s c.valid.ensures c.args.top c.requires;
      reached = reached_first s c.valid.ensures c.args.top c.requires;
    }

pub overflow_add-nodes : goal.overflow_add-nodes
overflow_add-nodes c = (let r = node_next c.args.arena.now c.valid.ensures c.args.top c.requires c.loop-next.nodes c.loop-next.at c.in-Some.next c.loop-next.invariant.place c.in-Some.ensures.found c.loop-next.invariant.nodes in omega (arith, r.0))

pub overflow_add-chars : goal.overflow_add-chars
overflow_add-chars c =
    let r = chars_next c.args.arena.now c.valid.ensures c.args.top c.requires c.loop-next.chars c.loop-next.at c.in-Some.next c.content-in-Some.result.now c.loop-next.invariant.place c.in-Some.ensures.found c.content-in-Some.ensures c.loop-next.invariant.chars in
    let e = c.char_count-chars-in-Some.ensures in
    omega (arith, e, r.0)

pub loop-next-smaller : goal.loop-next-smaller
loop-next-smaller c = falls c.args.arena.now c.valid.ensures c.args.top c.requires c.loop-next.at c.in-Some.next c.loop-next.invariant.place c.in-Some.ensures.found

pub loop-next-preserved : goal.loop-next-preserved
loop-next-preserved c = record {
  place = c.in-Some.ensures.found.place;
  nodes = (node_next c.args.arena.now c.valid.ensures c.args.top c.requires c.loop-next.nodes c.loop-next.at c.in-Some.next c.loop-next.invariant.place c.in-Some.ensures.found c.loop-next.invariant.nodes).1;
  chars = (
      let r = chars_next c.args.arena.now c.valid.ensures c.args.top c.requires c.loop-next.chars c.loop-next.at c.in-Some.next c.content-in-Some.result.now c.loop-next.invariant.place c.in-Some.ensures.found c.content-in-Some.ensures c.loop-next.invariant.chars in
      let e = c.char_count-chars-in-Some.ensures in
      rw e r.1);
  high = subst (λ d. High c.args.arena.now c.valid.ensures c.args.top c.requires c.in-Some.next d) (sym c.max-depth.ensures) (high_next c.args.arena.now c.valid.ensures c.args.top c.requires c.loop-next.depth c.loop-next.at c.in-Some.next c.loop-next.invariant.place c.in-Some.ensures.found c.loop-next.invariant.high);
  reached = subst (λ d. Reached c.args.arena.now c.valid.ensures c.args.top c.requires d) (sym c.max-depth.ensures) (reached_next c.args.arena.now c.valid.ensures c.args.top c.requires c.loop-next.depth c.in-Some.next c.in-Some.ensures.found.place c.loop-next.invariant.reached);
}

pub returns-clause-nodes : goal.returns-clause-nodes
returns-clause-nodes c = let a = c.in_default.ensures.none in node_last c.args.arena.now c.valid.ensures c.args.top c.requires c.loop-next.nodes c.loop-next.at c.loop-next.invariant.place (a refl) c.loop-next.invariant.nodes

pub returns-clause-chars : goal.returns-clause-chars
returns-clause-chars c = let a = c.in_default.ensures.none in chars_last c.args.arena.now c.valid.ensures c.args.top c.requires c.loop-next.chars c.loop-next.at c.loop-next.invariant.place (a refl) c.loop-next.invariant.chars

pub returns-clause-depth : goal.returns-clause-depth
returns-clause-depth c = let a = c.in_default.ensures.none in depth_last c.args.arena.now c.valid.ensures c.args.top c.requires c.loop-next.depth c.loop-next.at c.loop-next.invariant.place (a refl) c.loop-next.invariant.high c.loop-next.invariant.reached
