-- Writes to the links of nodes in their slots. No public clause cites this module.
use Rattle.std.specs.Prelude.{ℕ, zero, suc, List, [], ◌∷◌, Option, Some, None, unwrap_or, slice_index_or}
use Rattle.std.specs.Option.{option_map, option_and_then}
use Rattle.dom_model.specs.declared.Content.{Content}
use Rattle.dom_model.specs.Contents.{chars_in}
use Rattle.node_arena.specs.declared.Node.{Node}
use Rattle.node_arena.specs.declared.NodeRef.{NodeRef}

-- the slots with one node changed
abbrev pub change : List (Option Node) → ℕ → (Node → Node) → List (Option Node)
change [] k g = []
change (o ∷ slots) zero g = option_map g o ∷ slots
change (o ∷ slots) (suc k) g = o ∷ change slots k g

abbrev pub placed : Option NodeRef → Option NodeRef → Option NodeRef → Node → Node
placed parent prev next n = record n { parent = parent; prev = prev; next = next }

abbrev pub with_first : Option NodeRef → Node → Node
with_first to n = record n { first = to }

abbrev pub with_last : Option NodeRef → Node → Node
with_last to n = record n { last = to }

abbrev pub with_prev : Option NodeRef → Node → Node
with_prev to n = record n { prev = to }

abbrev pub with_next : Option NodeRef → Node → Node
with_next to n = record n { next = to }

-- the node with its content changed
abbrev pub with_content : (Content → Content) → Node → Node
with_content g n = record n { content = g n.content }

-- the characters of the node in a slot
abbrev pub chars_stored : Option Node → List ℕ
chars_stored o = unwrap_or (option_and_then (λ n. chars_in n.content) o) []

-- the node before the place, as its later neighbour or its parent says
abbrev pub prior_link : List (Option Node) → NodeRef → Option NodeRef → Option NodeRef
prior_link slots parent None = option_and_then (λ n. n.last) (slice_index_or slots parent.slot None)
prior_link slots parent (Some b) = option_and_then (λ n. n.prev) (slice_index_or slots b.slot None)

-- the later neighbour of `at`, or else the first child of the parent, is `to`
abbrev pub next_changed : List (Option Node) → NodeRef → Option NodeRef → Option NodeRef
    → List (Option Node)
next_changed slots parent None to = change slots parent.slot (with_first to)
next_changed slots parent (Some at) to = change slots at.slot (with_next to)

-- the earlier neighbour of `at`, or else the last child of the parent, is `to`
abbrev pub prev_changed : List (Option Node) → NodeRef → Option NodeRef → Option NodeRef
    → List (Option Node)
prev_changed slots parent None to = change slots parent.slot (with_last to)
prev_changed slots parent (Some at) to = change slots at.slot (with_prev to)

-- the slots after a node is put between two neighbours
abbrev pub linked_slots : List (Option Node) → NodeRef → Option NodeRef → Option NodeRef → NodeRef
    → List (Option Node)
linked_slots slots parent prior before node =
    prev_changed (next_changed (change slots node.slot (placed (Some parent) prior before)) parent
    prior
    (Some node)) parent before (Some node)

-- the slots after a node is taken out from between two neighbours
abbrev pub unlinked_slots : List (Option Node) → NodeRef → Option NodeRef → Option NodeRef → NodeRef
    → List (Option Node)
unlinked_slots slots parent prior after node =
    prev_changed (next_changed (change slots node.slot (placed None None None)) parent prior after)
    parent after prior
