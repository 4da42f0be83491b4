use Rattle.std.proofs.Common.{ap, sym, ◌∙◌, ◌<◌, arith, refl}
use Rattle.node_arena.specs.Held.{label}
use Rattle.node_paths.proofs.Visiting.{size_from, led, size_led, size_here, inner_first}
use Rattle.node_paths.proofs.Walking.{child_here, way_here, way_on}
use Rattle.node_paths.proofs.child_at.Goals as goal

pub loop-at-init : goal.loop-at-init
loop-at-init c =
    let a = c.args.arena.now in
    let valid = c.valid.ensures in
    record {
      held = c.first_child-at.ensures.held;
      inner = led a _ _ c.first_child-at.ensures (inner_first a.trees c.args.node.label valid.distinct (valid.here c.args.node.slot c.args.node.label c.requires));
      way = λ rest. rw c.first_child-at.ensures.is refl;
    }

pub returns-then-left-eq0-clause-way : goal.returns-then-left-eq0-clause-way
returns-then-left-eq0-clause-way c =
    let a = c.args.arena.now in
    let i = c.loop-at.invariant in
    let v = child_here a c.valid.ensures c.loop-at.at c.in-Some.child c.in-Some.is i.held i.inner in
    λ rest. sym (i.way rest) ∙ way_here a.trees c.in-Some.child.label v.0 v.1 (label c.loop-at.at) c.loop-at.left (ap label c.in-Some.is) c.if-left-eq0.true rest

pub loop-at-smaller : goal.loop-at-smaller
loop-at-smaller c =
    let a = c.args.arena.now in
    let i = c.loop-at.invariant in
    let v = child_here a c.valid.ensures c.loop-at.at c.in-Some.child c.in-Some.is i.held i.inner in
    let after = size_led a _ _ c.next-at.ensures in
    let here = size_here a c.loop-at.at c.in-Some.child c.in-Some.is in
    let smaller : size_from a.trees (label c.next-at.result) < size_from a.trees (label c.loop-at.at) = omega (arith, after, v.1.after, here) in
    smaller

pub loop-at-preserved : goal.loop-at-preserved
loop-at-preserved c =
    let a = c.args.arena.now in
    let i = c.loop-at.invariant in
    let v = child_here a c.valid.ensures c.loop-at.at c.in-Some.child c.in-Some.is i.held i.inner in
    record {
      held = c.next-at.ensures.held;
      inner = led a _ _ c.next-at.ensures v.1.next;
      way = λ rest. sym (way_on a.trees c.in-Some.child.label v.0 v.1 (label c.loop-at.at) (label c.next-at.result) c.loop-at.left (ap label c.in-Some.is) c.next-at.ensures.is (omega arith) rest) ∙ i.way rest;
    }
