-- Walks from node to node, in which nothing is edited.
use Rattle.std.specs.Prelude.{ℕ, zero, suc, Bool, not, Option, Some, None}
use Rattle.std.specs.Option.{option_map_or}
use Rattle.edit_model.specs.DomModel.declared.Content.{Content}
use Rattle.edit_model.specs.DomModel.Forest.{Forest, parent_of, prev_of, last_in, preorder, tree_of}
use Rattle.command_value.specs.NodeStyles.TurnBound as bound
use Rattle.edit_actions.specs.NodeTests.Visible.{is_visible}
use Rattle.edit_model.specs.State.{State}

-- how many turns a loop takes at most that starts now: two for each node of the document, one for
-- each character, and two
abbrev pub turn_bound : State → ℕ
turn_bound s = bound.turn_bound s.trees

abbrev pub followed : Option ℕ → ℕ → (ℕ → ℕ) → ℕ
followed None l on = l
followed (Some m) l on = on m

-- from l on, as long as a step leads to a node, and at most so many turns
unfoldable pub walk : (ℕ → Option ℕ) → ℕ → ℕ → ℕ
walk step zero l = l
walk step (suc n) l = followed (step l) l (walk step n)

-- the last node of a tree, in tree order
abbrev pub last_within : Forest Content → ℕ → Option ℕ
last_within f l = last_in (preorder (tree_of f l))

-- the node before another in tree order: the last one in the tree of its previous sibling, or else
-- its parent
unfoldable pub preceding : Forest Content → ℕ → Option ℕ
preceding f l = option_map_or (last_within f) (prev_of f l) (parent_of f l)

abbrev pub is_invisible : State → ℕ → Bool
is_invisible s l = not (is_visible s.trees l)
