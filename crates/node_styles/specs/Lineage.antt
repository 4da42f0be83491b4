-- A node with its ancestors, and the first of them that a test finds.
use Rattle.std.specs.Prelude.{ℕ, Bool, List, [], ◌∷◌, Option, Some, None, if◌then◌else◌, ◌==◌}
use Rattle.std.specs.List.{find, list_any}
use Rattle.std.specs.Option.{option_map, unwrap_or, option_or, option_and_then}
use Rattle.node_arena.specs.DomModel.declared.Content.{Content}
use Rattle.node_arena.specs.DomModel.Forest.{Forest, parent_of}
use Rattle.node_arena.specs.DomModel.Forest.Forest.{Nil, Tree}

-- a node, by its label and its content
pub record Ancestor : Type 0 where
  pub label : ℕ
  pub content : Content

-- the node of a label and its ancestors, the innermost first, in trees that stand below these
abbrev pub lineage_from : List Ancestor → Forest Content → ℕ → Option (List Ancestor)
lineage_from above Nil l = None
lineage_from above (Tree m c ks rest) l =
    if m == l then Some (record { label = m; content = c } ∷ above)
    else option_or (lineage_from (record { label = m; content = c } ∷ above) ks l)
    (lineage_from above rest l)

-- the node of a label and its ancestors, the innermost first
unfoldable pub lineage : Forest Content → ℕ → List Ancestor
lineage f l = unwrap_or (lineage_from [] f l) []

-- the innermost of a node and its ancestors whose content passes a test
unfoldable pub nearest : (Content → Bool) → Forest Content → ℕ → Option Ancestor
nearest test f l = find (λ k. test k.content) (lineage f l)

-- its label
abbrev pub nearest_label : (Content → Bool) → Forest Content → ℕ → Option ℕ
nearest_label test f l = option_map (λ k. k.label) (nearest test f l)

-- a node or an ancestor of it passes
unfoldable pub has_in_lineage : (Content → Bool) → Forest Content → ℕ → Bool
has_in_lineage test f l = list_any (λ k. test k.content) (lineage f l)

-- the same of the ancestors alone
abbrev pub nearest_above : (Content → Bool) → Forest Content → ℕ → Option ℕ
nearest_above test f l = option_and_then (λ p. nearest_label test f p) (parent_of f l)
