use Rattle.node_arena.proofs.DropOk.{drop_state}
use Rattle.node_arena.proofs.Arena.drop_leaf.Goals as goal

pub invariant_of-self : goal.invariant_of-self
invariant_of-self c = (drop_state c.self.inside.nodes.slots c.remove.new.self.slots c.self.inside.next c.self.inside.cap c.self.inside.index.items c.self.invariant c.args.self.now c.self.view_is c.args.node c.requires.held c.requires.inner c.requires.loose c.requires.leaf c.remove.ensures.updates.changed c.remove.ensures.updates.others).arena

pub returns : goal.returns
returns c = (drop_state c.self.inside.nodes.slots c.remove.new.self.slots c.self.inside.next c.self.inside.cap c.self.inside.index.items c.self.invariant c.args.self.now c.self.view_is c.args.node c.requires.held c.requires.inner c.requires.loose c.requires.leaf c.remove.ensures.updates.changed c.remove.ensures.updates.others).drops
