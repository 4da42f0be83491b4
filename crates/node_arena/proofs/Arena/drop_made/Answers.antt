use Rattle.std.proofs.Common.{sym, subst}
use Rattle.node_arena.specs.Sound.{IsIndexed}
use Rattle.node_arena.proofs.MadeOk.{arena_indexed, made_state}
use Rattle.node_arena.proofs.Arena.drop_made.Goals as goal

pub give_up_from-requires-clause-indexed : goal.give_up_from-requires-clause-indexed
give_up_from-requires-clause-indexed c = subst (IsIndexed c.self.inside.nodes.slots) (sym c.as_slice.ensures.value) (arena_indexed c.self.inside.nodes.slots c.self.inside.next c.self.inside.cap c.self.inside.index.items c.self.invariant)

pub invariant_of-self : goal.invariant_of-self
invariant_of-self c = (made_state c.self.inside.nodes.slots c.give_up_from.new.nodes.slots c.self.inside.next c.self.inside.cap c.self.inside.index.items c.self.invariant c.args.self.now c.self.view_is c.args.first c.requires.inner c.requires.whole c.give_up_from.ensures).arena

pub returns-clause-drops : goal.returns-clause-drops
returns-clause-drops c = (made_state c.self.inside.nodes.slots c.give_up_from.new.nodes.slots c.self.inside.next c.self.inside.cap c.self.inside.index.items c.self.invariant c.args.self.now c.self.view_is c.args.first c.requires.inner c.requires.whole c.give_up_from.ensures).drops

pub returns-clause-spent : goal.returns-clause-spent
returns-clause-spent c = (made_state c.self.inside.nodes.slots c.give_up_from.new.nodes.slots c.self.inside.next c.self.inside.cap c.self.inside.index.items c.self.invariant c.args.self.now c.self.view_is c.args.first c.requires.inner c.requires.whole c.give_up_from.ensures).spent
