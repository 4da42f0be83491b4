-- How deep a document may be after a run.
use Rattle.std.specs.Prelude.{ℕ, ◌+◌, max, List, [], ◌∷◌, if◌then◌else◌}
use Rattle.point_order.specs.DomModel.declared.Content.{Content}
use Rattle.point_order.specs.DomModel.Forest.{Forest, tree_of, depth_of}
use Rattle.point_order.specs.DomModel.Places.{levels}
use Rattle.edit_model.specs.State.{State}
use Rattle.edit_model.specs.Edit.{Edit, Insert, Move}
use Rattle.edit_model.specs.Tail.{Step, Copy, Do}
use Rattle.edit_model.specs.Action.{Action, Change, Extract, stepped, tail_of, may_extract}
use Rattle.edit_model.specs.Run.{Reaches, here, onward, Run}

-- how deep the deepest node of the tree of n would be below p: the depth of p, 1, and the height of
-- the tree
abbrev pub reach_of : ℕ → ℕ → Forest Content → ℕ
reach_of p n f = depth_of f p + levels (tree_of f n)

-- an insertion or a move reaches so deep
abbrev pub edit_reach : Edit → Forest Content → ℕ
edit_reach (Insert p b n) f = reach_of p n f
edit_reach (Move n p b) f = reach_of p n f
edit_reach _ f = 0

-- and so deep the steps of a tail, each where it is taken
abbrev pub steps_reach : List Step → State → ℕ
steps_reach [] s = 0
steps_reach (Copy content ∷ xs) s = steps_reach xs (stepped (Copy content) s)
steps_reach (Do e ∷ xs) s = max (edit_reach e s.trees) (steps_reach xs (stepped (Do e) s))

abbrev pub reach : Action → State → ℕ
reach (Change e) s = edit_reach e s.trees
reach (Extract from end target) s = if may_extract s from end target
    then steps_reach (tail_of s from end target) s else 0
reach _ s = 0

-- the deepest reach of the actions on the way
unfoldable pub deepest_on : {s t : State} → Reaches s t → ℕ
deepest_on here = 0
deepest_on (onward {t = t} q a) = max (deepest_on q) (reach a t)

unfoldable pub deepest_reach : {T : Type 0} → Run T → State → ℕ
deepest_reach m s = deepest_on (m.by_actions s)
