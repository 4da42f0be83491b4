-- Places and order in a forest: what follows a node, its index, its depth, and which of two nodes
-- comes first in tree order.
use Rattle.std.specs.Prelude.{ℕ, ◌+◌, max, ◌&&◌, ◌||◌, List, [], ◌∷◌, Option, Some, None, if◌then◌else◌, ◌==◌, nat_lt}
use Rattle.std.specs.Option.{option_map_or}
use Rattle.dom_model.specs.Forest.{Forest, count_of, parent_of, children_of, preorder}
use Rattle.dom_model.specs.Forest.Forest.{Nil, Tree}

-- how many labels stand before l in a list
abbrev pub place_in : List ℕ → ℕ → ℕ
place_in [] l = 0
place_in (x ∷ xs) l = if x == l then 0 else place_in xs l + 1

-- the first of a list that is a or b
abbrev pub first_among : List ℕ → ℕ → ℕ → Option ℕ
first_among [] a b = None
first_among (x ∷ xs) a b = if x == a || x == b then Some x else first_among xs a b

module _ {C : Type 0} where
  -- the first of two forests that has a tree
  abbrev pub or_else : Forest C → Forest C → Forest C
  or_else Nil g = g
  or_else (Tree l c ks rest) g = Tree l c ks rest

  -- the tree of a label with those of its later siblings
  abbrev pub onward : Forest C → ℕ → Forest C
  onward Nil l = Nil
  onward (Tree m c ks rest) l =
      if m == l then Tree m c ks rest else or_else (onward ks l) (onward rest l)

  -- the children of the first tree, and the trees after it
  abbrev pub kids_in : Forest C → Forest C
  kids_in Nil = Nil
  kids_in (Tree l c ks rest) = ks

  abbrev pub rest_in : Forest C → Forest C
  rest_in Nil = Nil
  rest_in (Tree l c ks rest) = rest

  -- how many nodes stand above one another at most
  abbrev pub levels : Forest C → ℕ
  levels Nil = 0
  levels (Tree l c ks rest) = max (levels ks + 1) (levels rest)

  -- the index of a label among its siblings
  abbrev pub index_of : Forest C → ℕ → ℕ
  index_of f l = option_map_or (λ p. place_in (children_of f p) l) (parent_of f l) 0

  -- the one of two labels of one tree that comes first in tree order
  abbrev pub first_of_two : Forest C → ℕ → ℕ → Option ℕ
  first_of_two Nil a b = None
  first_of_two (Tree m c ks rest) a b =
      if nat_lt 0 (count_of (Tree m c ks Nil) a) && nat_lt 0 (count_of (Tree m c ks Nil) b)
      then first_among (preorder (Tree m c ks Nil)) a b
      else first_of_two rest a b
