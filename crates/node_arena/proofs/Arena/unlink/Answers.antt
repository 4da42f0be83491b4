use Rattle.node_arena.proofs.UnlinkOk.{unlink_state}
use Rattle.node_arena.proofs.Arena.unlink.Goals as goal

pub invariant_of-self : goal.invariant_of-self
invariant_of-self g c =
    let n = c.node-stored.ensures in
    let child = rw c.unwrap-parent.ensures at n.parent in
    rw c.take_in.ensures.nodes (unlink_state c.self.inside.nodes.slots c.self.inside.next c.self.inside.cap c.self.inside.index.items c.self.invariant c.args.self.now c.self.view_is c.unwrap-parent.result c.node-stored.result.now.prev c.node-stored.result.now.next c.args.node c.requires.held child n.prev n.next).arena

pub returns-clause-unlinked : goal.returns-clause-unlinked
returns-clause-unlinked g c =
    let n = c.node-stored.ensures in
    let child = rw c.unwrap-parent.ensures at n.parent in
    rw c.take_in.ensures.nodes (unlink_state c.self.inside.nodes.slots c.self.inside.next c.self.inside.cap c.self.inside.index.items c.self.invariant c.args.self.now c.self.view_is c.unwrap-parent.result c.node-stored.result.now.prev c.node-stored.result.now.next c.args.node c.requires.held child n.prev n.next).is
