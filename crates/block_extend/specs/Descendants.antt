-- A search below a node.
use Rattle.std.specs.Prelude.{ℕ, Bool, false, ◌||◌}
use Rattle.node_paths.specs.DomModel.declared.Content.{Content}
use Rattle.node_paths.specs.DomModel.Forest.{Forest, first_of}
use Rattle.node_paths.specs.DomModel.Forest.Forest.{Nil, Tree}
use Rattle.node_paths.specs.Onward.{onward_at}

-- a node of these trees passes
abbrev pub has_in : (ℕ → Bool) → Forest Content → Bool
has_in test Nil = false
has_in test (Tree l c ks rest) = test l || (has_in test ks || has_in test rest)

-- a descendant of the node passes
unfoldable pub has_descendant : (ℕ → Bool) → Forest Content → ℕ → Bool
has_descendant test f l = has_in test (onward_at f (first_of f l))
