-- Lists of siblings, and the children of a node up to one of them.
use Rattle.std.specs.Prelude.{ℕ, Bool, false, ◌||◌, ◌==◌, List, [], ◌∷◌, Option, Some, None, if◌then◌else◌}
use Rattle.edit_model.specs.DomModel.Forest.{is_label, either, parent_of, first_of, last_of}
use Rattle.edit_model.specs.State.{State}

-- the parent of the first member that has one
unfoldable pub first_parent : State → List ℕ → Option ℕ
first_parent s [] = None
first_parent s (x ∷ xs) = either (parent_of s.trees x) (first_parent s xs)

-- the members whose parent is o
unfoldable pub members : State → ℕ → List ℕ → List ℕ
members s o [] = []
members s o (x ∷ xs) =
    if is_label (parent_of s.trees x) o then x ∷ members s o xs else members s o xs

-- the members before a
unfoldable pub until : ℕ → List ℕ → List ℕ
until a [] = []
until a (x ∷ xs) = if x == a then [] else x ∷ until a xs

abbrev pub is_among : ℕ → List ℕ → Bool
is_among l [] = false
is_among l (x ∷ xs) = l == x || is_among l xs

abbrev pub has : List ℕ → Option ℕ → Bool
has list None = false
has list (Some l) = is_among l list

-- whether the first, or the last, child of o is in the list
unfoldable pub starts_in : State → ℕ → List ℕ → Bool
starts_in s o list = has list (first_of s.trees o)

unfoldable pub ends_in : State → ℕ → List ℕ → Bool
ends_in s o list = has list (last_of s.trees o)
