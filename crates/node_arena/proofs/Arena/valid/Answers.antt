use Rattle.node_arena.proofs.MakeOk.{valid_state}
use Rattle.node_arena.proofs.Arena.valid.Goals as goal

pub returns : goal.returns
returns c = valid_state c.self.inside.nodes.slots c.self.inside.next c.self.inside.cap c.self.inside.index.items c.self.invariant c.args.self.now c.self.view_is
