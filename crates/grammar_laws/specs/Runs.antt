-- Runs that keep a document within the grammar of pages.
use Rattle.std.specs.Prelude.{◌≡◌, true}
use Rattle.edit_model.specs.Action.{Action, Change, MakeElement, MakeWords, Override}
use Rattle.edit_model.specs.Edit.{Edit, Replace, Set}
use Rattle.edit_model.specs.State.{State}
use Rattle.edit_model.specs.Valid.{IsValid}
use Rattle.edit_model.specs.Run.{Reaches, here, onward, Run}
use Rattle.step_text.specs.StepLine.{is_attribute_name}
use Rattle.grammar_laws.specs.Proper.{IsText, IsPageTag, IsProperSetting, IsProperState}

abbrev pub IsProperEdit : Edit → Type 0
IsProperEdit (Replace n at count put) = IsText put
IsProperEdit (Set n name value) = (is_attribute_name name ≡ true) × IsText value
IsProperEdit _ = Unit {0}

-- what the action makes, puts or sets is of the grammar
abbrev pub IsProperAction : Action → Type 0
IsProperAction (Change e) = IsProperEdit e
IsProperAction (MakeElement name attributes) = IsPageTag name attributes
IsProperAction (MakeWords chars) = IsText chars
IsProperAction (Override command setting) = IsProperSetting setting
IsProperAction _ = Unit {0}

-- each action on the way is such
abbrev pub ProperOn : {s t : State} → Reaches s t → Type 0
ProperOn here = Unit {0}
ProperOn (onward q a) = ProperOn q × IsProperAction a

-- each action of the run is such, from every valid state of the grammar
pub record Proper {T : Type 0} (m : Run T) : Type 0 where
  pub stays : (s : State) → IsValid s → IsProperState s → ProperOn (m.by_actions s)
