use Rattle.std.proofs.Common.{◌∙◌, sym, arith}
use Rattle.block_extend.proofs.Visiting.{first_at, next_at, first_smaller, next_smaller, found_here, found_below, none_here}
use Rattle.block_extend.proofs.descendants.+has_onward.Goals as goal

pub has_onward-requires : goal.has_onward-requires
has_onward-requires g t c κs within =
    let law = c.valid.ensures in
    let r = c.in-Some.node in
    let here = rw c.in-Some.is at c.loop-at.invariant.at in
    let fewer = rw c.in-Some.is at c.loop-at.invariant.fewer in
    let first = first_at law r here c.first_child.result c.first_child.ensures in
    (omega (arith, c.decreases, fewer, first_smaller law r here c.first_child.result c.first_child.ensures), (within.0, (within.1, (first.held, first.inner))))

pub returns-then-chooses : goal.returns-then-chooses
returns-then-chooses g t c =
    let here = rw c.in-Some.is at c.loop-at.invariant.at in
    let same = rw c.in-Some.is at c.loop-at.invariant.same in
    found_here c.valid.ensures c.in-Some.node here _ (sym c.chooses.ensures ∙ c.if-chooses.true) ∙ same

pub returns-then-has_onward : goal.returns-then-has_onward
returns-then-has_onward g t c =
    let here = rw c.in-Some.is at c.loop-at.invariant.at in
    let same = rw c.in-Some.is at c.loop-at.invariant.same in
    found_below c.valid.ensures c.in-Some.node here _ c.first_child.result c.first_child.ensures (sym c.has_onward.ensures ∙ c.if-has_onward.true) ∙ same

pub loop-at-smaller : goal.loop-at-smaller
loop-at-smaller g t c =
    let here = rw c.in-Some.is at c.loop-at.invariant.at in
    rw c.in-Some.is (next_smaller c.valid.ensures c.in-Some.node here c.next-at.result c.next-at.ensures)

pub loop-at-preserved : goal.loop-at-preserved
loop-at-preserved g t c =
    let law = c.valid.ensures in
    let r = c.in-Some.node in
    let here = rw c.in-Some.is at c.loop-at.invariant.at in
    let same = rw c.in-Some.is at c.loop-at.invariant.same in
    let fewer = rw c.in-Some.is at c.loop-at.invariant.fewer in
    record {
      at = next_at law r here c.next-at.result c.next-at.ensures;
      fewer = omega (arith, fewer, next_smaller law r here c.next-at.result c.next-at.ensures);
      same =
          sym (none_here law r here _ c.first_child.result c.next-at.result c.first_child.ensures c.next-at.ensures (sym c.chooses.ensures ∙ c.if-chooses.false) (sym c.has_onward.ensures ∙ c.if-has_onward.false))
          ∙ same;
    }
