-- The canonical space sequence (HTML Editing APIs): so many blanks, of which no two that collapse
-- stand side by side. The steps are those of docs/ALGORITHMS.md.
use Rattle.std.specs.Prelude.{ℕ, zero, suc, ◌==◌, Bool, ◌||◌, ◌&&◌, not, List, [], ◌∷◌, ◌++◌, if◌then◌else◌}

-- U+00A0 keeps its place, and U+0020 collapses
abbrev pub hard : ℕ
hard = 160

abbrev pub soft : ℕ
soft = 32

abbrev pub is_blank : ℕ → Bool
is_blank c = (c == soft) || (c == hard)

abbrev pub hard_if : Bool → ℕ
hard_if b = if b then hard else soft

-- the canonical space sequence, step 2
abbrev pub one_space : Bool → Bool → List ℕ
one_space start end = hard_if (start || end) ∷ []

-- step 3
abbrev pub pair_of_spaces : Bool → List ℕ
pair_of_spaces start = hard_if start ∷ hard_if (not start) ∷ []

-- step 4
abbrev pub three_spaces : Bool → Bool → List ℕ
three_spaces start end = hard_if start ∷ hard_if (not (start && end)) ∷ hard_if end ∷ []

-- step 5
abbrev pub two_spaces : Bool → Bool → List ℕ
two_spaces start end = hard_if (start || not end) ∷ hard_if end ∷ []

-- `start` and `end` say that a line starts before the blanks, and that one ends after them
unfoldable pub canonical_spaces : ℕ → Bool → Bool → List ℕ
canonical_spaces zero start end = []
canonical_spaces (suc zero) start end = one_space start end
canonical_spaces (suc (suc zero)) start end = two_spaces start end
canonical_spaces (suc (suc (suc zero))) start end = three_spaces start end
canonical_spaces (suc (suc (suc (suc n)))) start end =
    pair_of_spaces start ++ canonical_spaces (suc (suc n)) start end
