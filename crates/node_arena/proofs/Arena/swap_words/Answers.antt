use Rattle.std.proofs.Common.{false, ap, sym, ◌∙◌}
use Rattle.std.specs.Option.{option_map_or, option_and_then}
use Rattle.dom_model.specs.Contents.{has_chars, chars_in, with_chars}
use Rattle.node_arena.specs.declared.Node.{Node}
use Rattle.node_arena.proofs.Walk.{stored_state}
use Rattle.dom_model.proofs.NodesKept.{chars_node}
use Rattle.node_arena.proofs.ReviseOk.{revise_state}
use Rattle.node_arena.proofs.Arena.swap_words.Goals as goal

pub swap_chars_at-requires : goal.swap_chars_at-requires
swap_chars_at-requires c =
    let r = stored_state c.self.inside.nodes.slots c.self.inside.next c.self.inside.cap c.self.inside.index.items c.self.invariant c.args.self.now c.self.view_is c.args.node c.requires.held in
    ap (λ o. option_map_or (λ (n : Node). has_chars n.content) o false) r.at ∙ (sym (ap (λ o. option_map_or has_chars o false) r.content) ∙ c.requires.chars)

pub invariant_of-self : goal.invariant_of-self
invariant_of-self c =
    rw c.swap_chars_at.ensures.nodes
    (revise_state c.self.inside.nodes.slots c.self.inside.next c.self.inside.cap c.self.inside.index.items c.self.invariant c.args.self.now c.self.view_is c.args.node (with_chars c.args.words.now) c.requires.held (λ o _. chars_node c.args.node.label c.args.words.now o c.requires.short)).arena

pub returns-clause-state : goal.returns-clause-state
returns-clause-state c =
    rw c.swap_chars_at.ensures.nodes
    (revise_state c.self.inside.nodes.slots c.self.inside.next c.self.inside.cap c.self.inside.index.items c.self.invariant c.args.self.now c.self.view_is c.args.node (with_chars c.args.words.now) c.requires.held (λ o _. chars_node c.args.node.label c.args.words.now o c.requires.short)).is

pub returns-clause-words : goal.returns-clause-words
returns-clause-words c =
    let r = stored_state c.self.inside.nodes.slots c.self.inside.next c.self.inside.cap c.self.inside.index.items c.self.invariant c.args.self.now c.self.view_is c.args.node c.requires.held in
    ap (option_and_then chars_in) r.content ∙ (sym (ap (option_and_then (λ (n : Node). chars_in n.content)) r.at) ∙ c.swap_chars_at.ensures.words)
