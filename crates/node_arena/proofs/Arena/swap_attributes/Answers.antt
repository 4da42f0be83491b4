use Rattle.std.proofs.Common.{false, ap, sym, ◌∙◌}
use Rattle.std.specs.Option.{option_map_or, option_and_then}
use Rattle.dom_model.specs.Contents.{is_element, attributes_in, with_attributes}
use Rattle.node_arena.specs.declared.Node.{Node}
use Rattle.node_arena.proofs.Walk.{stored_state}
use Rattle.dom_model.proofs.NodesKept.{attributes_node}
use Rattle.node_arena.proofs.ReviseOk.{revise_state}
use Rattle.node_arena.proofs.Arena.swap_attributes.Goals as goal

pub swap_attributes_at-requires : goal.swap_attributes_at-requires
swap_attributes_at-requires c =
    let r = stored_state c.self.inside.nodes.slots c.self.inside.next c.self.inside.cap c.self.inside.index.items c.self.invariant c.args.self.now c.self.view_is c.args.node c.requires.held in
    ap (λ o. option_map_or (λ (n : Node). is_element n.content) o false) r.at ∙ (sym (ap (λ o. option_map_or is_element o false) r.content) ∙ c.requires.element)

pub invariant_of-self : goal.invariant_of-self
invariant_of-self c =
    rw c.swap_attributes_at.ensures.nodes
    (revise_state c.self.inside.nodes.slots c.self.inside.next c.self.inside.cap c.self.inside.index.items c.self.invariant c.args.self.now c.self.view_is c.args.node (with_attributes c.args.list.now) c.requires.held (λ o _. attributes_node c.args.node.label c.args.list.now o c.valid.ensures)).arena

pub returns-clause-state : goal.returns-clause-state
returns-clause-state c =
    rw c.swap_attributes_at.ensures.nodes
    (revise_state c.self.inside.nodes.slots c.self.inside.next c.self.inside.cap c.self.inside.index.items c.self.invariant c.args.self.now c.self.view_is c.args.node (with_attributes c.args.list.now) c.requires.held (λ o _. attributes_node c.args.node.label c.args.list.now o c.valid.ensures)).is

pub returns-clause-list : goal.returns-clause-list
returns-clause-list c =
    let r = stored_state c.self.inside.nodes.slots c.self.inside.next c.self.inside.cap c.self.inside.index.items c.self.invariant c.args.self.now c.self.view_is c.args.node c.requires.held in
    ap (option_and_then attributes_in) r.content ∙ (sym (ap (option_and_then (λ (n : Node). attributes_in n.content)) r.at) ∙ c.swap_attributes_at.ensures.list)
