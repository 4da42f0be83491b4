-- Where characters occur in the texts of trees.
use Rattle.std.specs.Prelude.{ℕ, zero, suc, ◌-◌, ◌++◌, List, [], ◌∷◌, length, map, if◌then◌else◌, nat_eq}
use Rattle.std.specs.List.{starts_with}
use Rattle.node_styles.specs.DomModel.declared.Content.{Content}
use Rattle.node_styles.specs.DomModel.declared.Content.TheVariants.{Words}
use Rattle.node_styles.specs.DomModel.Forest.{Forest, tree_of}
use Rattle.node_styles.specs.DomModel.Forest.Forest.{Nil, Tree}
use Rattle.point_order.specs.LiveRange.declared.places.Point.{Point}

-- the offsets at which `wanted` occurs in characters that begin at an offset. The first `within` of
-- them belong to an occurrence before them, and none begins there.
abbrev pub offsets_from : (wanted : List ℕ) → (at within : ℕ) → List ℕ → List ℕ
offsets_from wanted at within [] = []
offsets_from wanted at (suc within) (c ∷ cs) = offsets_from wanted (suc at) within cs
offsets_from wanted at zero (c ∷ cs) =
    if starts_with nat_eq (c ∷ cs) wanted
    then at ∷ offsets_from wanted (suc at) (length wanted - 1) cs
    else offsets_from wanted (suc at) 0 cs

-- from the first on, none overlapping; no characters occur nowhere
abbrev pub offsets : List ℕ → List ℕ → List ℕ
offsets [] chars = []
offsets (w ∷ ws) chars = offsets_from (w ∷ ws) 0 0 chars

-- the characters of a text
abbrev pub words_in : Content → List ℕ
words_in (Words chars) = chars
words_in c = []

abbrev pub points_at : ℕ → List ℕ → List Point
points_at l offsets = map (λ offset. record { label = l; offset = offset }) offsets

abbrev pub points_in : List ℕ → ℕ → Content → List Point
points_in wanted l c = points_at l (offsets wanted (words_in c))

-- in tree order; each occurrence stands in one text
abbrev pub occurrences : List ℕ → Forest Content → List Point
occurrences wanted Nil = []
occurrences wanted (Tree l c children rest) =
    points_in wanted l c ++ occurrences wanted children ++ occurrences wanted rest

-- those in a node and all that stands below it
unfoldable pub found_in : Forest Content → ℕ → List ℕ → List Point
found_in f l wanted = occurrences wanted (tree_of f l)
