use Rattle.node_arena.proofs.LinkOk.{link_state}
use Rattle.node_arena.proofs.Arena.link.Goals as goal

pub link_in-requires-clause-prior : goal.link_in-requires-clause-prior
link_in-requires-clause-prior g c =
    (link_state c.self.inside.nodes.slots c.self.inside.next c.self.inside.cap c.self.inside.index.items c.self.invariant c.args.self.now c.self.view_is c.args.parent c.args.before c.args.node c.requires.parent_held c.requires.before_held c.requires.node_held c.requires.can).prior_some

pub invariant_of-self : goal.invariant_of-self
invariant_of-self g c =
    rw c.link_in.ensures.nodes (link_state c.self.inside.nodes.slots c.self.inside.next c.self.inside.cap c.self.inside.index.items c.self.invariant c.args.self.now c.self.view_is c.args.parent c.args.before c.args.node c.requires.parent_held c.requires.before_held c.requires.node_held c.requires.can).arena

pub returns-clause-linked : goal.returns-clause-linked
returns-clause-linked g c =
    rw c.link_in.ensures.nodes (link_state c.self.inside.nodes.slots c.self.inside.next c.self.inside.cap c.self.inside.index.items c.self.invariant c.args.self.now c.self.view_is c.args.parent c.args.before c.args.node c.requires.parent_held c.requires.before_held c.requires.node_held c.requires.can).is
