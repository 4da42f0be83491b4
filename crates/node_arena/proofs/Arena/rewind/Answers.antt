use Rattle.std.proofs.Common.{subst, sym}
use Rattle.node_arena.specs.Sound.{IsArena}
use Rattle.node_arena.proofs.RewindOk.{rewind_state}
use Rattle.node_arena.proofs.Arena.rewind.Goals as goal

pub invariant_of-self : goal.invariant_of-self
invariant_of-self c =
    subst (IsArena c.self.inside.nodes.slots c.args.label c.self.inside.cap) (sym c.truncate.ensures.items)
    (rewind_state c.self.inside.nodes.slots c.self.inside.next c.self.inside.cap c.self.inside.index.items c.self.invariant c.args.self.now c.self.view_is c.args.label c.requires.low c.requires.spent).arena

pub returns : goal.returns
returns c = (rewind_state c.self.inside.nodes.slots c.self.inside.next c.self.inside.cap c.self.inside.index.items c.self.invariant c.args.self.now c.self.view_is c.args.label c.requires.low c.requires.spent).is
