-- Runs that give no node a state of contenteditable, take none away, and don't give up the
-- selection: the certificate of an algorithm that keeps islands and the selection.
use Rattle.edit_model.specs.Action.{Action, Unselect}
use Rattle.edit_model.specs.State.{State}
use Rattle.edit_model.specs.Valid.{IsValid}
use Rattle.edit_model.specs.Laws.{LeavesStates}
use Rattle.edit_model.specs.Run.{Reaches, here, onward, Run}

-- an action that does none of this
abbrev pub IsSteady : Action → Type 0
IsSteady Unselect = ⊥
IsSteady a = LeavesStates a

-- each action on the way is such
abbrev pub SteadyOn : {s t : State} → Reaches s t → Type 0
SteadyOn here = Unit {0}
SteadyOn (onward q a) = SteadyOn q × IsSteady a

-- from every valid state, each action of the run is steady
pub record Steady {T : Type 0} (m : Run T) : Type 0 where
  pub leaves : (s : State) → IsValid s → SteadyOn (m.by_actions s)
