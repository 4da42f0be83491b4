use Rattle.std.proofs.Common.{Some}
use Rattle.node_arena.specs.Change.{placed, change}
use Rattle.node_arena.proofs.ChangeLemmas.{IsSome-change, IsSome-next_changed, each_change, each_next_changed}
use Rattle.node_arena.proofs.links.link_in.Goals as goal

pub set_next-requires-clause-parent : goal.set_next-requires-clause-parent
set_next-requires-clause-parent g c =
    let a = c.args in
    let put = placed (Some a.parent) c.prior_node-prior.result a.before in
    rw c.write_place.ensures (IsSome-change a.nodes.now.slots a.node.slot a.parent.slot put c.requires.parent)

pub set_next-requires-clause-at : goal.set_next-requires-clause-at
set_next-requires-clause-at g c =
    let a = c.args in
    let put = placed (Some a.parent) c.prior_node-prior.result a.before in
    rw (c.write_place.ensures) (each_change a.nodes.now.slots a.node.slot put c.prior_node-prior.result (rw c.prior_node-prior.ensures.node c.requires.prior))

pub set_prev-requires-clause-parent : goal.set_prev-requires-clause-parent
set_prev-requires-clause-parent g c =
    let a = c.args in
    let put = placed (Some a.parent) c.prior_node-prior.result a.before in
    rw (c.set_next.ensures.nodes, c.write_place.ensures) (IsSome-next_changed (change a.nodes.now.slots a.node.slot put) a.parent c.prior_node-prior.result (Some a.node) a.parent.slot (IsSome-change a.nodes.now.slots a.node.slot a.parent.slot put c.requires.parent))

pub set_prev-requires-clause-at : goal.set_prev-requires-clause-at
set_prev-requires-clause-at g c =
    let a = c.args in
    let put = placed (Some a.parent) c.prior_node-prior.result a.before in
    rw (c.set_next.ensures.nodes, c.write_place.ensures) (each_next_changed (change a.nodes.now.slots a.node.slot put) a.parent c.prior_node-prior.result (Some a.node) a.before (each_change a.nodes.now.slots a.node.slot put a.before c.requires.before))
