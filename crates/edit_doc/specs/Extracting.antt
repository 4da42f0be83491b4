-- What the calls that extract a tail make. No public clause cites this module.
use Rattle.std.specs.Prelude.{◌≡◌, ℕ, List, Option, IfSome, Result, Ok, Err}
use Rattle.edit_model.specs.DomModel.declared.Content.{Content}
use Rattle.edit_model.specs.DomModel.Forest.{Forest, total, tree_of}
use Rattle.edit_model.specs.DomModel.Places.{index_of}
use Rattle.edit_model.specs.LiveRange.declared.places.Point.{Point}
use Rattle.edit_model.specs.declared.settings.EditFault.{EditFault}
use Rattle.edit_model.specs.State.{State}
use Rattle.edit_model.specs.Tail.{Step, tail_steps}
use Rattle.edit_model.specs.Action.{stepped_all}
use Rattle.edit_model.specs.Gives.{Fails}

-- the steps that extract the tail of a node, by the trees as they are now
unfoldable pub tail_at : State → Point → ℕ → ℕ → List Step
tail_at s from end target =
    tail_steps (total (λ _ _. 1) (tree_of s.trees end)) s.trees from end target s.next

-- a call made the steps, or it gave up: with Full where they end past the cap
abbrev pub MakesSteps : {T : Type 0} → Result T EditFault → State → State → List Step → Type 0
MakesSteps (Ok v) s t xs = t ≡ stepped_all xs s
MakesSteps (Err e) s t xs = Fails e (stepped_all xs s)

-- of the node of that label, if one is named, the offset is the index
abbrev pub TellsIndex : Forest Content → Option Point → Type 0
TellsIndex f known = IfSome known (λ at. at.offset ≡ index_of f at.label)
