-- What stands round a node in its nearest block: the nodes before and after it in tree order, and
-- the trees that lie wholly before and after it.
use Rattle.std.specs.Prelude.{ℕ, List, [], ◌∷◌, Option, Some, None, if◌then◌else◌, ◌==◌, nat_lt}
use Rattle.node_styles.specs.DomModel.declared.Content.{Content}
use Rattle.node_styles.specs.DomModel.Forest.{Forest, join, count_of, preorder, tree_of}
use Rattle.node_styles.specs.DomModel.Forest.Forest.{Nil, Tree}
use Rattle.node_styles.specs.DomModel.Places.{kids_in}
use Rattle.node_styles.specs.Lineage.{Ancestor, lineage}
use Rattle.node_styles.specs.Blocks.{nearest_block}

-- the labels after l in a list
abbrev pub labels_after : List ℕ → ℕ → List ℕ
labels_after [] l = []
labels_after (x ∷ xs) l = if x == l then xs else labels_after xs l

-- the labels before l, the nearest first, where `passed` stand before the list
abbrev pub labels_before_onto : List ℕ → List ℕ → ℕ → List ℕ
labels_before_onto passed [] l = passed
labels_before_onto passed (x ∷ xs) l =
    if x == l then passed else labels_before_onto (x ∷ passed) xs l

abbrev pub labels_before : List ℕ → ℕ → List ℕ
labels_before xs l = labels_before_onto [] xs l

module _ {C : Type 0} where
  -- the trees that lie wholly before l in tree order; an ancestor of l doesn't
  abbrev pub earlier : Forest C → ℕ → Forest C
  earlier Nil l = Nil
  earlier (Tree m c ks rest) l =
      if m == l then Nil
      else (if nat_lt 0 (count_of ks l) then earlier ks l else Tree m c ks (earlier rest l))

  -- those that lie wholly after the tree of l
  abbrev pub later : Forest C → ℕ → Forest C
  later Nil l = Nil
  later (Tree m c ks rest) l =
      if m == l then rest
      else (if nat_lt 0 (count_of ks l) then join (later ks l) rest else later rest l)

-- the outermost of a lineage
abbrev pub outermost : ℕ → List Ancestor → ℕ
outermost l [] = l
outermost l (k ∷ ks) = outermost k.label ks

-- what a block holds, or the whole tree of l where there is none
abbrev pub held_by : Option ℕ → Forest Content → ℕ → Forest Content
held_by None f l = tree_of f (outermost l (lineage f l))
held_by (Some b) f l = kids_in (tree_of f b)

-- what the nearest block of l holds
unfoldable pub in_block : Forest Content → ℕ → Forest Content
in_block f l = held_by (nearest_block f l) f l

-- the nodes before l in its nearest block, in tree order from l on back, and those after it
unfoldable pub nodes_before : Forest Content → ℕ → List ℕ
nodes_before f l = labels_before (preorder (in_block f l)) l

unfoldable pub nodes_after : Forest Content → ℕ → List ℕ
nodes_after f l = labels_after (preorder (in_block f l)) l

-- the trees before and after l in its nearest block
unfoldable pub trees_before : Forest Content → ℕ → Forest Content
trees_before f l = earlier (in_block f l) l

unfoldable pub trees_after : Forest Content → ℕ → Forest Content
trees_after f l = later (in_block f l) l
