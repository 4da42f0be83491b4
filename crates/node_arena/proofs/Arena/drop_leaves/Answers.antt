use Rattle.std.proofs.Common.{sym, arith}
use Rattle.node_arena.proofs.DropTreeOk.{dropping_start, dropping_down, falls_down, dropping_up, falls_up, top_is, dropping_end}
use Rattle.node_arena.proofs.Arena.drop_leaves.Goals as goal

pub loop-child-init : goal.loop-child-init
loop-child-init g c = dropping_start c.args.self.now c.args.top c.valid.ensures c.requires.held c.requires.loose

pub loop-child-smaller-in-Some : goal.loop-child-smaller-in-Some
loop-child-smaller-in-Some g c = falls_down c.args.self.now c.loop-child.self c.args.top c.loop-child.at c.valid-in-loop-child.ensures c.loop-child.invariant c.in-Some.child (sym c.in-Some.ensures.is) c.in-Some.ensures.held

pub loop-child-preserved-in-Some : goal.loop-child-preserved-in-Some
loop-child-preserved-in-Some g c = dropping_down c.args.self.now c.loop-child.self c.args.top c.loop-child.at c.valid-in-loop-child.ensures c.loop-child.invariant c.in-Some.child (sym c.in-Some.ensures.is) c.in-Some.ensures.held

pub loop-child-smaller : goal.loop-child-smaller
loop-child-smaller g c = falls_up c.args.self.now c.loop-child.self c.args.top c.loop-child.at c.valid-in-loop-child.ensures c.loop-child.invariant c.in-Some-parent.parent (sym c.in-Some-parent.ensures.is) (sym c.in_default.ensures.is) c.in-Some-parent.ensures.held c.drop_child.new.self c.drop_child.ensures

pub loop-child-preserved : goal.loop-child-preserved
loop-child-preserved g c = dropping_up c.args.self.now c.loop-child.self c.args.top c.loop-child.at c.valid-in-loop-child.ensures c.loop-child.invariant c.in-Some-parent.parent (sym c.in-Some-parent.ensures.is) (sym c.in_default.ensures.is) c.in-Some-parent.ensures.held c.drop_child.new.self c.drop_child.ensures

pub drop_leaf-requires-clause-inner : goal.drop_leaf-requires-clause-inner
drop_leaf-requires-clause-inner g c =
    let is = top_is c.args.self.now c.loop-child.self c.args.top c.loop-child.at c.valid-in-loop-child.ensures c.loop-child.invariant (sym c.in-None.ensures.is) in
    omega (arith, is, c.requires.inner)

pub returns : goal.returns
returns g c = dropping_end c.args.self.now c.loop-child.self c.drop_leaf.new.self c.args.top c.loop-child.at c.valid.ensures c.valid-in-loop-child.ensures c.valid-2.ensures c.loop-child.invariant (sym c.in_default.ensures.is) (sym c.in-None.ensures.is) c.drop_leaf.ensures
