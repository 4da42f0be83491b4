-- The laws of splitting the parent of a list.
use Rattle.std.specs.Prelude.{◌≡◌, ℕ, List, [], ◌∷◌, ◌++◌}
use Rattle.edit_model.specs.DomModel.Forest.{children_of}
use Rattle.edit_model.specs.State.{State}
use Rattle.edit_model.specs.Run.{final}
use Rattle.edit_laws.specs.Order.{KeepsOrder, IsKeeping}
use Rattle.edit_laws.specs.Steady.{Steady}
use Rattle.edit_laws.specs.OrderPreserving.{OrderPreserving}
use Rattle.inline_value.specs.WrapSplit.Split.{split_parent, remove_keeping_children}

-- of consecutive children of a node, in order
abbrev pub ParentsSplit : Type 0
ParentsSplit =
    (front list rest : List ℕ) (o : ℕ) (s : State) → IsKeeping s → children_of s.trees o ≡ front
    ++ (list ++ rest) → KeepsOrder s (final (split_parent list) s)

-- of one node
abbrev pub ParentOfOneSplits : Type 0
ParentOfOneSplits = (n : ℕ) → OrderPreserving (split_parent (n ∷ []))

abbrev pub NodesGoAndChildrenStay : Type 0
NodesGoAndChildrenStay = (n : ℕ) → OrderPreserving (remove_keeping_children n)

-- splitting a parent leaves the states of contenteditable
abbrev pub SplitsSteady : Type 0
SplitsSteady = (list : List ℕ) → Steady (split_parent list)
