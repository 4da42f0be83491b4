-- The trees from a node on.
use Rattle.std.specs.Prelude.{ℕ, List, [], ◌∷◌, Option, Some, None, IsSome}
use Rattle.node_arena.specs.DomModel.Forest.{Forest, parent_of, first_of}
use Rattle.node_arena.specs.DomModel.Forest.Forest.{Nil}
use Rattle.node_arena.specs.DomModel.Places.{onward}
use Rattle.node_paths.specs.Paths.{node_in}

-- the tree of a node with those of its later siblings, where there is one
abbrev pub onward_at : {C : Type 0} → Forest C → Option ℕ → Forest C
onward_at f None = Nil
onward_at f (Some l) = onward f l

-- the node, if there is one, has a parent
abbrev pub IsInner : {C : Type 0} → Forest C → Option ℕ → Type 0
IsInner f None = Unit {0}
IsInner f (Some l) = IsSome (parent_of f l)

-- the label that a path leads to from a node
abbrev pub node_below : {C : Type 0} → Forest C → ℕ → List ℕ → Option ℕ
node_below f l [] = Some l
node_below f l (i ∷ is) = node_in (onward_at f (first_of f l)) (i ∷ is)
