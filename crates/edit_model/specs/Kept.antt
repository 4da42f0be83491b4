-- What commands that keep contents never remove: images, rules, and characters other than tab, LF,
-- CR and space.
use Rattle.std.specs.Prelude.{ℕ, Bool, true, false, ◌||◌, not, ◌==◌, List, [], ◌∷◌, ◌++◌, if◌then◌else◌, bytes_eq, codes, filter, map}
use Rattle.point_order.specs.DomModel.declared.Content.{Content}
use Rattle.point_order.specs.DomModel.declared.Content.TheVariants.{Document, Element, Words, Remark}
use Rattle.point_order.specs.DomModel.Forest.{Forest}
use Rattle.point_order.specs.DomModel.Forest.Forest.{Nil, Tree}

-- a character, or an img or hr by its label
pub data Leaf : Type 0 where
  Letter : (character : ℕ) → Leaf
  Thing : (label : ℕ) → Leaf

abbrev pub is_thing : List ℕ → Bool
is_thing name = bytes_eq name (codes "img") || bytes_eq name (codes "hr")

-- what a node bears itself
unfoldable pub borne_by : ℕ → Content → List Leaf
borne_by l Document = []
borne_by l (Element name attributes) = if is_thing name then Thing l ∷ [] else []
borne_by l (Words chars) = map Letter chars
borne_by l (Remark chars) = []

-- what the nodes of a forest bear, in tree order
unfoldable pub leaves : Forest Content → List Leaf
leaves Nil = []
leaves (Tree l c ks rest) = borne_by l c ++ (leaves ks ++ leaves rest)

abbrev pub is_blank : ℕ → Bool
is_blank c = c == 9 || (c == 10 || (c == 13 || c == 32))

abbrev pub is_kept : Leaf → Bool
is_kept (Letter c) = not (is_blank c)
is_kept (Thing l) = true

unfoldable pub kept_leaves : Forest Content → List Leaf
kept_leaves f = filter is_kept (leaves f)

abbrev pub is_empty : {A : Type 0} → List A → Bool
is_empty [] = true
is_empty (x ∷ xs) = false

-- a forest bears nothing that is kept
unfoldable pub has_no_kept_leaves : Forest Content → Bool
has_no_kept_leaves f = is_empty (kept_leaves f)
