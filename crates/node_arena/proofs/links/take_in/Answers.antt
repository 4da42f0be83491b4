use Rattle.std.proofs.Common.{None}
use Rattle.node_arena.specs.Change.{placed, change}
use Rattle.node_arena.proofs.ChangeLemmas.{IsSome-change, IsSome-next_changed, each_change, each_next_changed}
use Rattle.node_arena.proofs.links.take_in.Goals as goal

pub set_next-requires-clause-parent : goal.set_next-requires-clause-parent
set_next-requires-clause-parent g c =
    let a = c.args in
    rw c.write_place.ensures (IsSome-change a.nodes.now.slots a.node.slot a.parent.slot (placed None None None) c.requires.parent)

pub set_next-requires-clause-at : goal.set_next-requires-clause-at
set_next-requires-clause-at g c =
    let a = c.args in
    rw c.write_place.ensures (each_change a.nodes.now.slots a.node.slot (placed None None None) a.prior c.requires.prior)

pub set_prev-requires-clause-parent : goal.set_prev-requires-clause-parent
set_prev-requires-clause-parent g c =
    let a = c.args in
    rw (c.set_next.ensures.nodes, c.write_place.ensures) (IsSome-next_changed (change a.nodes.now.slots a.node.slot (placed None None None)) a.parent a.prior a.after a.parent.slot (IsSome-change a.nodes.now.slots a.node.slot a.parent.slot (placed None None None) c.requires.parent))

pub set_prev-requires-clause-at : goal.set_prev-requires-clause-at
set_prev-requires-clause-at g c =
    let a = c.args in
    rw (c.set_next.ensures.nodes, c.write_place.ensures) (each_next_changed (change a.nodes.now.slots a.node.slot (placed None None None)) a.parent a.prior a.after a.after (each_change a.nodes.now.slots a.node.slot (placed None None None) a.after c.requires.after))
