-- Runs that keep the order from each state: the certificate of an algorithm.
use Rattle.std.specs.Prelude.{◌≡◌, ℕ, []}
use Rattle.edit_model.specs.DomModel.Forest.{tree_of}
use Rattle.edit_model.specs.Kept.{leaves}
use Rattle.edit_model.specs.State.{State}
use Rattle.edit_model.specs.Edit.{Insert, Move, Replace}
use Rattle.edit_model.specs.Action.{Action, Change}
use Rattle.edit_model.specs.Run.{Run, final}
use Rattle.edit_laws.specs.Order.{KeepsOrder, IsKeeping}

-- every state in which a command runs that keeps contents keeps its order
pub record OrderPreserving {T : Type 0} (m : Run T) : Type 0 where
  pub keeps : (s : State) → IsKeeping s → KeepsOrder s (final m s)

-- so does every such state in which the tree of x bears nothing
pub record OrderPreservingWith (x : ℕ) {T : Type 0} (m : Run T) : Type 0 where
  pub keeps : (s : State) → IsKeeping s → leaves (tree_of s.trees x) ≡ [] → KeepsOrder s (final m s)

-- an action that neither moves nor inserts a node, nor changes characters
abbrev pub IsQuiet : Action → Type 0
IsQuiet (Change (Insert p b n)) = ⊥
IsQuiet (Change (Move n p b)) = ⊥
IsQuiet (Change (Replace n at count put)) = ⊥
IsQuiet _ = Unit {0}
