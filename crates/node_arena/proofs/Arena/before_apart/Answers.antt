use Rattle.std.proofs.Common.{Some, sym, ap, ◌∙◌, arith}
use Rattle.std.proofs.lemmas.Bool.{ltb-true}
use Rattle.node_arena.proofs.SiblingOrder.{not_lower}
use Rattle.dom_model.proofs.Within.{within_up, depth_of-parent}
use Rattle.node_arena.proofs.BeforeOk.{parent_named, first_is, second_is, neither_is}
use Rattle.node_arena.proofs.Arena.before_apart.Goals as goal

pub unwrap-q-requires : goal.unwrap-q-requires
unwrap-q-requires c =
    let s = c.args.self.now in
    let law = c.valid.ensures in
    let i = c.loop-p.invariant in
    let more = depth_of-parent s.trees c.loop-p.x.label c.in-Some.p.label law.distinct (sym c.in-Some.ensures.is) in
    parent_named s law c.loop-p.y c.parent-in-Some.result _ i.y_held c.parent-in-Some.ensures (sym i.deep ∙ more)

pub is_earlier_child-requires : goal.is_earlier_child-requires
is_earlier_child-requires c =
    let i = c.loop-p.invariant in
    let q = rw c.unwrap-q.ensures at c.parent-in-Some.ensures in
    record { first_held = i.x_held; second_held = i.y_held; first_child = sym c.in-Some.ensures.is; second_child = sym q.is ∙ ap Some (sym c.if-p-q.true) }

pub returns-then-is_earlier_child : goal.returns-then-is_earlier_child
returns-then-is_earlier_child c =
    let s = c.args.self.now in
    let i = c.loop-p.invariant in
    let q = rw c.unwrap-q.ensures at c.parent-in-Some.ensures in
    let low = ltb-true _ _ (sym c.is_earlier_child.ensures ∙ c.if-is_earlier_child.true) in
    first_is s c.valid.ensures c.args.a c.args.b c.loop-p.x c.loop-p.y i.x_above i.y_above c.in-Some.p.label c.unwrap-q.result.label (sym c.in-Some.ensures.is) (sym q.is) c.if-p-q.true low c.requires.first_held

pub returns-else-is_earlier_child : goal.returns-else-is_earlier_child
returns-else-is_earlier_child c =
    let s = c.args.self.now in
    let i = c.loop-p.invariant in
    let q = rw c.unwrap-q.ensures at c.parent-in-Some.ensures in
    let high = not_lower _ _ (sym c.is_earlier_child.ensures ∙ c.if-is_earlier_child.false) in
    second_is s c.valid.ensures c.args.a c.args.b c.loop-p.x c.loop-p.y i.x_above i.y_above c.in-Some.p.label c.unwrap-q.result.label i.apart (sym c.in-Some.ensures.is) (sym q.is) c.if-p-q.true high c.requires.second_held

pub loop-p-smaller : goal.loop-p-smaller
loop-p-smaller c = omega (arith, depth_of-parent c.args.self.now.trees c.loop-p.x.label c.in-Some.p.label c.valid.ensures.distinct (sym c.in-Some.ensures.is))

pub loop-p-preserved : goal.loop-p-preserved
loop-p-preserved c =
    let s = c.args.self.now in
    let law = c.valid.ensures in
    let i = c.loop-p.invariant in
    let q = rw c.unwrap-q.ensures at c.parent-in-Some.ensures in
    record {
      x_held = c.in-Some.ensures.held;
      y_held = q.held;
      x_above = within_up s.trees law.distinct c.loop-p.x.label c.in-Some.p.label c.args.a.label (sym c.in-Some.ensures.is) i.x_above;
      y_above = within_up s.trees law.distinct c.loop-p.y.label c.unwrap-q.result.label c.args.b.label (sym q.is) i.y_above;
      deep = omega (arith, i.deep, depth_of-parent s.trees c.loop-p.x.label c.in-Some.p.label law.distinct (sym c.in-Some.ensures.is), depth_of-parent s.trees c.loop-p.y.label c.unwrap-q.result.label law.distinct (sym q.is));
      apart = c.if-p-q.false;
    }

pub returns : goal.returns
returns c =
    let i = c.loop-p.invariant in
    neither_is c.args.self.now c.valid.ensures c.args.a c.args.b c.loop-p.x c.loop-p.y i.x_above i.y_above i.apart i.x_held i.y_held (sym c.in_default.ensures.is) i.deep
