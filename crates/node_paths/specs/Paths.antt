-- Paths: the indexes of children that lead from the document to a node, and how they are written.
use Rattle.std.specs.Prelude.{ℕ, zero, suc, List, [], ◌∷◌, Option, Some, None, if◌then◌else◌, ◌==◌, codes, map, unwrap_or}
use Rattle.std.specs.List.{join_with_byte}
use Rattle.std.specs.Option.{option_map}
use Rattle.std.specs.Fmt.{decimal}
use Rattle.node_arena.specs.DomModel.Forest.{Forest, either}
use Rattle.node_arena.specs.DomModel.Forest.Forest.{Nil, Tree}
use Rattle.node_arena.specs.DomModel.Places.{kids_in}

-- the path with its first index one higher: the same way from one sibling earlier
abbrev pub stepped : List ℕ → List ℕ
stepped [] = []
stepped (i ∷ is) = suc i ∷ is

module _ {C : Type 0} where
  -- the label that a path leads to in a list of trees: its first index picks a tree, and the others
  -- go on below it
  abbrev pub node_in : Forest C → List ℕ → Option ℕ
  node_in Nil is = None
  node_in (Tree m c ks rest) [] = None
  node_in (Tree m c ks rest) (zero ∷ []) = Some m
  node_in (Tree m c ks rest) (zero ∷ j ∷ is) = node_in ks (j ∷ is)
  node_in (Tree m c ks rest) (suc i ∷ is) = node_in rest (i ∷ is)

  -- the path that leads to a label in a list of trees
  abbrev pub path_in : Forest C → ℕ → Option (List ℕ)
  path_in Nil l = None
  path_in (Tree m c ks rest) l =
      if m == l then Some (0 ∷ []) else either (option_map (λ is. 0 ∷ is) (path_in ks l))
      (option_map stepped (path_in rest l))

  -- the label of the node at a path from the document, the first tree, whose own path is empty
  abbrev pub label_by : Forest C → List ℕ → Option ℕ
  label_by kids [] = Some 0
  label_by kids (i ∷ is) = node_in kids (i ∷ is)

  unfoldable pub label_at : Forest C → List ℕ → Option ℕ
  label_at f path = label_by (kids_in f) path

  -- the path of a node of the document
  unfoldable pub path_of : Forest C → ℕ → Option (List ℕ)
  path_of f l = if l == 0 then Some [] else path_in (kids_in f) l

-- ---- as text

-- `.` for the document, and else the indexes joined by `/`
abbrev pub indexes_text : List ℕ → List ℕ
indexes_text is = join_with_byte 47 (map decimal is)

abbrev pub path_text : List ℕ → List ℕ
path_text [] = codes "."
path_text (i ∷ is) = indexes_text (i ∷ is)

-- the way to a node of the document, and its path as text
unfoldable pub indexes_at : {C : Type 0} → Forest C → ℕ → List ℕ
indexes_at f l = indexes_text (unwrap_or (path_of f l) [])

unfoldable pub node_text : {C : Type 0} → Forest C → ℕ → List ℕ
node_text f l = path_text (unwrap_or (path_of f l) [])
