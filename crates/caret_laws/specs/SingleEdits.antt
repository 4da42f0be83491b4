-- Extracting the tail of a node as the standard has it: edits one by one, each with a test of its
-- own and left out by itself where the test fails. Each step looks at the trees as they are then.
-- The steps are those of docs/ALGORITHMS.md.
use Rattle.std.specs.Prelude.{ℕ, zero, suc, Bool, false, ◌||◌, ◌&&◌, not, List, [], ◌∷◌, drop, Option, Some, None, if◌then◌else◌, ◌==◌}
use Rattle.std.specs.Option.{option_map_or}
use Rattle.edit_model.specs.DomModel.Forest.{parent_of, children_of, tree_of}
use Rattle.edit_model.specs.LiveRange.declared.places.Point.{Point}
use Rattle.edit_model.specs.PointOrder.PointOrder.{child_toward}
use Rattle.edit_model.specs.State.{State}
use Rattle.edit_model.specs.Kept.{has_no_kept_leaves}
use Rattle.edit_model.specs.Confined.{is_open}
use Rattle.edit_model.specs.Edit.{Insert, Remove, edited}
use Rattle.edit_model.specs.Action.{made, applied}
use Rattle.edit_model.specs.Tail.{later, copy_of, document_size}

-- A node leaves its parent, which is open. Here alone it need not be editable: it's inserted again.
-- A keeping command takes out nothing that is kept.
abbrev pub may_leave_for : State → ℕ → Option ℕ → Bool
may_leave_for s n None = false
may_leave_for s n (Some o) =
    is_open s o && (not s.keeping || has_no_kept_leaves (tree_of s.trees n))

unfoldable pub may_be_taken : State → ℕ → Bool
may_be_taken s n = may_leave_for s n (parent_of s.trees n)

-- where a removal is made by this test
module _ (test : State → ℕ → Bool) where
  unfoldable pub taken_out : ℕ → State → State
  taken_out n s = if test s n then applied (Remove n) s else s

  -- a node is removed, and then inserted at the end of d
  unfoldable pub brought : ℕ → ℕ → State → State
  brought d n s = edited (Insert d None n) (taken_out n s)

  -- so is each node of a list, in order
  unfoldable pub brought_all : ℕ → List ℕ → State → State
  brought_all d [] s = s
  brought_all d (x ∷ xs) s = brought_all d xs (brought d x s)

  -- extract the tail, step 2, at its end: each child of c after k
  unfoldable pub later_brought : ℕ → ℕ → ℕ → State → State
  later_brought c d k s = brought_all d (later (children_of s.trees c) k) s

  -- Extract the tail, steps 1 and 2: what stands in c from a point on goes to the end of d. The
  -- copy of the child k, in which the point stands, gets what stands in k from the point on,
  -- becomes the last child of d, and then comes each child of c after k. It ends where the point
  -- stands neither in c nor below it.
  unfoldable pub tail_brought : ℕ → Point → ℕ → ℕ → State → State
  tail_brought zero from c d s = s
  tail_brought (suc fuel) from c d s =
      if from.label == c then brought_all d (drop from.offset (children_of s.trees c)) s
      else option_map_or (λ k. later_brought c d k (edited (Insert d None s.next)
      (tail_brought fuel from k s.next (made (copy_of s.trees k) s))))
      (child_toward s.trees c from.label) s

-- no chain of parents is longer than the document has nodes
unfoldable pub extracted_singly : Point → ℕ → ℕ → State → State
extracted_singly from c d s = tail_brought may_be_taken (document_size s.trees) from c d s
