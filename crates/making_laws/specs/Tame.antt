-- Runs that make known elements alone, set no attributes but those that commands set, and put known
-- characters alone: the certificate of an algorithm that brings nothing else into a document.
use Rattle.std.specs.Prelude.{◌≡◌, true}
use Rattle.edit_model.specs.DomModel.declared.Content.TheVariants.{Element}
use Rattle.inline_value.specs.ForestChanges.Named.{Each}
use Rattle.edit_model.specs.Action.{Action, Change, MakeElement, MakeWords}
use Rattle.edit_model.specs.Edit.{Edit, Replace, Set}
use Rattle.edit_model.specs.State.{State}
use Rattle.edit_model.specs.Valid.{IsValid}
use Rattle.edit_model.specs.Run.{Reaches, here, onward, Run}
use Rattle.making_laws.specs.Names.{is_set_name}
use Rattle.making_laws.specs.Known.{Source, IsKnown, IsKnownCharacter, KnowsAll}

-- an edit that puts characters puts known ones, and one that sets an attribute has one of those names
abbrev pub IsTameEdit : Source → Edit → Type 0
IsTameEdit source (Replace n at count put) = Each (IsKnownCharacter source) put
IsTameEdit source (Set n name value) = is_set_name name ≡ true
IsTameEdit source _ = Unit {0}

-- an action that makes no element but one that the source knows, makes no text but of known
-- characters, and is no other edit
abbrev pub IsTame : Source → Action → Type 0
IsTame source (Change e) = IsTameEdit source e
IsTame source (MakeElement name attributes) = IsKnown source (Element name attributes)
IsTame source (MakeWords chars) = Each (IsKnownCharacter source) chars
IsTame source _ = Unit {0}

-- each action on the way is such
abbrev pub TameOn : Source → {s t : State} → Reaches s t → Type 0
TameOn source here = Unit {0}
TameOn source (onward q a) = TameOn source q × IsTame source a

-- each action of the run is tame, from every valid state whose nodes are known, whatever the source
pub record Tame {T : Type 0} (m : Run T) : Type 0 where
  pub stays : (source : Source) (s : State) → IsValid s → KnowsAll source s.trees
      → TameOn source (m.by_actions s)

-- so it is with this source
pub record TameFrom (source : Source) {T : Type 0} (m : Run T) : Type 0 where
  pub stays : (s : State) → IsValid s → KnowsAll source s.trees → TameOn source (m.by_actions s)
