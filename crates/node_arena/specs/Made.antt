-- Which slots have a node of a label or of a greater one. No public clause cites this module.
use Rattle.std.specs.Prelude.{ℕ, Bool, false, ◌&&◌, ◌==◌, nat_le, nat_lt, Option, Some, None, if◌then◌else◌}
use Rattle.node_arena.specs.declared.Node.{Node}

-- the slot without the node of this label
abbrev pub has_label : ℕ → Option Node → Bool
has_label label None = false
has_label label (Some n) = n.label == label

abbrev pub kept_but : ℕ → Option Node → Option Node
kept_but label slot = if has_label label slot then None else slot

-- the slot without a node whose label is at least the first and below the second
abbrev pub is_between : ℕ → ℕ → Option Node → Bool
is_between low high None = false
is_between low high (Some n) = nat_le low n.label && nat_lt n.label high

abbrev pub kept_outside : ℕ → ℕ → Option Node → Option Node
kept_outside low high slot = if is_between low high slot then None else slot

-- the slot without a node of this label or a greater one
abbrev pub is_made : ℕ → Option Node → Bool
is_made label None = false
is_made label (Some n) = nat_le label n.label

abbrev pub kept_below : ℕ → Option Node → Option Node
kept_below label slot = if is_made label slot then None else slot
