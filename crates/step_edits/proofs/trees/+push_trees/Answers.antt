use Rattle.std.proofs.Common.{ap, ◌+◌, ◌<◌, ◌^◌, arith}
use Rattle.node_paths.specs.NodeArena.Held.{label}
use Rattle.node_paths.proofs.Visiting.{size_from, come_to, size_here}
use Rattle.step_edits.proofs.Appending.{leads_on, nodes_appended}
use Rattle.step_edits.proofs.trees.+push_trees.Goals as goal

pub push_trees-requires : goal.push_trees-requires
push_trees-requires t c =
    let a = c.args.arena.now in
    let i = c.loop-at.invariant in
    let v = come_to a c.valid.ensures c.loop-at.at c.in-Some.node _ c.in-Some.is i.held i.inner c.content.ensures in
    let below = leads_on a c.loop-at.at c.in-Some.node c.in-Some.is _ _ c.first_child.ensures v.below v.first in
    let whole = c.decreases in
    let smaller : size_from a.trees (label c.first_child.result) < t = omega (arith, below.0, i.fewer, whole) in
    let room : c.args.level + 1 + size_from a.trees (label c.first_child.result) < 2 ^ 32 = omega (arith, below.0, i.fewer, c.requires.room) in
    (smaller, (c.first_child.ensures.held, (below.1, room)))

pub loop-at-smaller : goal.loop-at-smaller
loop-at-smaller t c =
    let a = c.args.arena.now in
    let i = c.loop-at.invariant in
    let v = come_to a c.valid.ensures c.loop-at.at c.in-Some.node _ c.in-Some.is i.held i.inner c.content.ensures in
    (leads_on a c.loop-at.at c.in-Some.node c.in-Some.is _ _ c.next-at.ensures v.after v.next).0

pub loop-at-preserved : goal.loop-at-preserved
loop-at-preserved t c =
    let a = c.args.arena.now in
    let i = c.loop-at.invariant in
    let v = come_to a c.valid.ensures c.loop-at.at c.in-Some.node _ c.in-Some.is i.held i.inner c.content.ensures in
    let after = leads_on a c.loop-at.at c.in-Some.node c.in-Some.is _ _ c.next-at.ensures v.after v.next in
    record {
      held = c.next-at.ensures.held;
      inner = after.1;
      fewer = omega (arith, after.0, i.fewer);
      appended = nodes_appended a c.in-Some.node.label _ v c.args.level _ _ _ c.first_child.ensures.is c.next-at.ensures.is
          (ap label c.in-Some.is) _ _ _ _ i.appended c.in_ok-push_node.ensures.ok c.in_ok-push_trees.ensures.ok;
    }

pub overflow_add-level : goal.overflow_add-level
overflow_add-level t c =
    let a = c.args.arena.now in
    let i = c.loop-at.invariant in
    let v = come_to a c.valid.ensures c.loop-at.at c.in-Some.node _ c.in-Some.is i.held i.inner c.content.ensures in
    let here = size_here a c.loop-at.at c.in-Some.node c.in-Some.is in
    omega (arith, v.both, i.fewer, here, c.requires.room)
