-- Series in lists of nodes: the first member, and the members after it for as long as each goes on
-- from the one before. Algorithms take lists series by series (HTML Editing APIs, "while the first
-- member is the nextSibling of the last member").
use Rattle.std.specs.Prelude.{ℕ, ◌+◌, Bool, List, [], ◌∷◌, if◌then◌else◌}
use Rattle.node_paths.specs.DomModel.declared.Content.{Content}
use Rattle.node_paths.specs.DomModel.Forest.{Forest, is_label, next_of}

-- how many members go on a series whose last member so far is x
abbrev pub count_after : (ℕ → ℕ → Bool) → ℕ → List ℕ → ℕ
count_after on x [] = 0
count_after on x (y ∷ ys) = if on x y then count_after on y ys + 1 else 0

-- how many members the first series of a list has
abbrev pub count_series : (ℕ → ℕ → Bool) → List ℕ → ℕ
count_series on [] = 0
count_series on (x ∷ xs) = count_after on x xs + 1

-- y is the next sibling of x
unfoldable pub is_next : Forest Content → ℕ → ℕ → Bool
is_next f x y = is_label (next_of f x) y
