use Rattle.node_arena.proofs.Walk.{shows_state}
use Rattle.node_arena.proofs.Arena.node.Goals as goal

pub returns : goal.returns
returns c = shows_state c.self.inside.nodes.slots c.self.inside.next c.self.inside.cap c.self.inside.index.items c.self.invariant c.args.self.now c.self.view_is c.args.node c.index.result.now c.requires c.index.ensures
