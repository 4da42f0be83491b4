use Rattle.std.proofs.Common.{◌≡◌, List, [], ℕ, ap, sym, subst, ◌∙◌, unwrap_or, false}
use Rattle.std.specs.Option.{option_map_or, option_and_then}
use Rattle.dom_model.specs.Contents.{has_chars, chars_in, chars_of, with_chars}
use Rattle.dom_model.specs.Room.{CanSplice, spliced}
use Rattle.node_arena.specs.Change.{chars_stored, change, with_content}
use Rattle.node_arena.specs.declared.Node.{Node}
use Rattle.node_arena.proofs.Walk.{stored_state}
use Rattle.dom_model.proofs.NodesKept.{chars_node}
use Rattle.node_arena.proofs.ReviseOk.{revise_state}
use Rattle.node_arena.proofs.Arena.splice_words.Goals as goal

pub splice_chars_at-requires-clause-chars : goal.splice_chars_at-requires-clause-chars
splice_chars_at-requires-clause-chars c =
    let r = stored_state c.self.inside.nodes.slots c.self.inside.next c.self.inside.cap c.self.inside.index.items c.self.invariant c.args.self.now c.self.view_is c.args.node c.requires.held in
    ap (λ o. option_map_or (λ (n : Node). has_chars n.content) o false) r.at ∙ (sym (ap (λ o. option_map_or has_chars o false) r.content) ∙ c.requires.chars)

pub splice_chars_at-requires-clause-can : goal.splice_chars_at-requires-clause-can
splice_chars_at-requires-clause-can c =
    let r = stored_state c.self.inside.nodes.slots c.self.inside.next c.self.inside.cap c.self.inside.index.items c.self.invariant c.args.self.now c.self.view_is c.args.node c.requires.held in
    let same = ap (λ o. unwrap_or (option_and_then chars_in o) []) r.content ∙ sym (ap chars_stored r.at) in
    subst (λ (t : List ℕ). CanSplice t c.args.at c.args.count c.args.put.now) same c.requires.can

pub invariant_of-self : goal.invariant_of-self
invariant_of-self c =
    let r = stored_state c.self.inside.nodes.slots c.self.inside.next c.self.inside.cap c.self.inside.index.items c.self.invariant c.args.self.now c.self.view_is c.args.node c.requires.held in
    let same = ap (λ o. unwrap_or (option_and_then chars_in o) []) r.content ∙ sym (ap chars_stored r.at) in
    let words = spliced (unwrap_or (chars_of c.args.self.now.trees c.args.node.label) []) c.args.at c.args.count c.args.put.now in
    rw (c.splice_chars_at.ensures ∙ ap (λ t. record c.self.inside.nodes { slots = change c.self.inside.nodes.slots c.args.node.slot (with_content (with_chars (spliced t c.args.at c.args.count c.args.put.now))) }) (sym same))
    (revise_state c.self.inside.nodes.slots c.self.inside.next c.self.inside.cap c.self.inside.index.items c.self.invariant c.args.self.now c.self.view_is c.args.node (with_chars words) c.requires.held (λ o _. chars_node c.args.node.label words o c.requires.can.short)).arena

pub returns : goal.returns
returns c =
    let r = stored_state c.self.inside.nodes.slots c.self.inside.next c.self.inside.cap c.self.inside.index.items c.self.invariant c.args.self.now c.self.view_is c.args.node c.requires.held in
    let same = ap (λ o. unwrap_or (option_and_then chars_in o) []) r.content ∙ sym (ap chars_stored r.at) in
    let words = spliced (unwrap_or (chars_of c.args.self.now.trees c.args.node.label) []) c.args.at c.args.count c.args.put.now in
    rw (c.splice_chars_at.ensures ∙ ap (λ t. record c.self.inside.nodes { slots = change c.self.inside.nodes.slots c.args.node.slot (with_content (with_chars (spliced t c.args.at c.args.count c.args.put.now))) }) (sym same))
    (revise_state c.self.inside.nodes.slots c.self.inside.next c.self.inside.cap c.self.inside.index.items c.self.invariant c.args.self.now c.self.view_is c.args.node (with_chars words) c.requires.held (λ o _. chars_node c.args.node.label words o c.requires.can.short)).is
