use Rattle.node_arena.proofs.SlottedOk as ok
use Rattle.node_arena.proofs.Arena.slotted.Goals as goal

pub returns : goal.returns
returns c = ok.slotted c.self.inside.nodes.slots c.self.inside.next c.self.inside.cap c.self.inside.index.items c.self.invariant c.args.self.now c.self.view_is
