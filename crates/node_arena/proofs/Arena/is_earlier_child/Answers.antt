use Rattle.std.proofs.Common.{sym, ap, ◌∙◌, arith}
use Rattle.dom_model.specs.Places.{index_of}
use Rattle.dom_model.proofs.Indexes.{index_of-prev, index_of-first}
use Rattle.dom_model.proofs.Neighbours.{parent_of-next}
use Rattle.node_arena.proofs.SiblingOrder.{earlier, later, index_low, index_next, index_end, told_by_prev}
use Rattle.node_arena.proofs.Arena.is_earlier_child.Goals as goal

pub returns-in_default-prev : goal.returns-in_default-prev
returns-in_default-prev c =
    let s = c.args.self.now in
    let i = c.loop-left_x.invariant in
    let one = index_of-prev s.trees c.valid.ensures.distinct c.loop-left_x.before_x.label c.in-Some.left_x.label (sym c.in-Some.ensures.is) in
    let two = index_of-first s.trees c.valid.ensures.distinct c.loop-left_x.before_y.label (sym c.in_default-prev.ensures.is) in
    sym (later (index_of s.trees c.args.x.label) (index_of s.trees c.args.y.label) (omega (arith, i.back, one, two)))

pub returns-in_default-next : goal.returns-in_default-next
returns-in_default-next c =
    let s = c.args.self.now in
    let i = c.loop-left_x.invariant in
    let last = index_end s.trees c.valid.ensures.distinct c.loop-left_x.after_x.label c.args.parent.label i.child_x (sym c.in_default-next.ensures.is) in
    let low = index_low s.trees c.valid.ensures.distinct c.loop-left_x.after_y.label c.args.parent.label i.child_y in
    sym (later (index_of s.trees c.args.x.label) (index_of s.trees c.args.y.label) (omega (arith, i.forth, last, low)))

pub returns-in_default-next-2 : goal.returns-in_default-next-2
returns-in_default-next-2 c =
    let s = c.args.self.now in
    let i = c.loop-left_x.invariant in
    let last = index_end s.trees c.valid.ensures.distinct c.loop-left_x.after_y.label c.args.parent.label i.child_y (sym c.in_default-next-2.ensures.is) in
    let next = index_next s.trees c.valid.ensures.distinct c.loop-left_x.after_x.label c.in-Some-next.right_x.label c.args.parent.label i.child_x (sym c.in-Some-next.ensures.is) in
    let child = parent_of-next s.trees c.valid.ensures.distinct c.loop-left_x.after_x.label c.in-Some-next.right_x.label c.args.parent.label i.child_x (sym c.in-Some-next.ensures.is) in
    let low = index_low s.trees c.valid.ensures.distinct c.in-Some-next.right_x.label c.args.parent.label child in
    sym (earlier (index_of s.trees c.args.x.label) (index_of s.trees c.args.y.label) (omega (arith, i.forth, last, next, low)))

pub returns-then-right_x-y : goal.returns-then-right_x-y
returns-then-right_x-y c =
    let s = c.args.self.now in
    let i = c.loop-left_x.invariant in
    let next = index_next s.trees c.valid.ensures.distinct c.loop-left_x.after_x.label c.in-Some-next.right_x.label c.args.parent.label i.child_x (sym c.in-Some-next.ensures.is) in
    let met = ap (index_of s.trees) c.if-right_x-y.true in
    sym (earlier (index_of s.trees c.args.x.label) (index_of s.trees c.args.y.label) (omega (arith, i.further, next, met)))

pub returns-then-right_y-x : goal.returns-then-right_y-x
returns-then-right_y-x c =
    let s = c.args.self.now in
    let i = c.loop-left_x.invariant in
    let next = index_next s.trees c.valid.ensures.distinct c.loop-left_x.after_y.label c.in-Some-next-2.right_y.label c.args.parent.label i.child_y (sym c.in-Some-next-2.ensures.is) in
    let met = ap (index_of s.trees) c.if-right_y-x.true in
    sym (later (index_of s.trees c.args.x.label) (index_of s.trees c.args.y.label) (omega (arith, i.further, i.forth, next, met)))

pub loop-left_x-smaller : goal.loop-left_x-smaller
loop-left_x-smaller c =
    let s = c.args.self.now in
    omega (arith, index_of-prev s.trees c.valid.ensures.distinct c.loop-left_x.before_x.label c.in-Some.left_x.label (sym c.in-Some.ensures.is))

pub loop-left_x-preserved : goal.loop-left_x-preserved
loop-left_x-preserved c =
    let s = c.args.self.now in
    let once = c.valid.ensures.distinct in
    let i = c.loop-left_x.invariant in
    let p = c.args.parent.label in
    let left_x = index_of-prev s.trees once c.loop-left_x.before_x.label c.in-Some.left_x.label (sym c.in-Some.ensures.is) in
    let left_y = index_of-prev s.trees once c.loop-left_x.before_y.label c.in-Some-prev.left_y.label (sym c.in-Some-prev.ensures.is) in
    let right_x = index_next s.trees once c.loop-left_x.after_x.label c.in-Some-next.right_x.label p i.child_x (sym c.in-Some-next.ensures.is) in
    let right_y = index_next s.trees once c.loop-left_x.after_y.label c.in-Some-next-2.right_y.label p i.child_y (sym c.in-Some-next-2.ensures.is) in
    record {
      before_x_held = c.in-Some.ensures.held;
      before_y_held = c.in-Some-prev.ensures.held;
      after_x_held = c.in-Some-next.ensures.held;
      after_y_held = c.in-Some-next-2.ensures.held;
      back = omega (arith, i.back, left_x, left_y);
      forth = omega (arith, i.forth, right_x, right_y);
      further = omega (arith, i.further, right_x);
      child_x = parent_of-next s.trees once c.loop-left_x.after_x.label c.in-Some-next.right_x.label p i.child_x (sym c.in-Some-next.ensures.is);
      child_y = parent_of-next s.trees once c.loop-left_x.after_y.label c.in-Some-next-2.right_y.label p i.child_y (sym c.in-Some-next-2.ensures.is);
    }

pub returns : goal.returns
returns c =
    let s = c.args.self.now in
    let i = c.loop-left_x.invariant in
    let none = index_of-first s.trees c.valid.ensures.distinct c.loop-left_x.before_x.label (sym c.in_default.ensures.is) in
    c.is_some.ensures ∙ told_by_prev s.trees c.valid.ensures.distinct c.prev-2.result c.loop-left_x.before_y.label (index_of s.trees c.args.x.label) (index_of s.trees c.args.y.label) c.prev-2.ensures.is (omega (arith, i.back, none))
