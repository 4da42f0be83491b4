-- What every execution of a command in a host keeps, whatever it answers.
use Rattle.std.specs.Prelude.{◌≡◌, ◌⊎◌, ℕ, Bool, true, false, List, ◌∷◌, Option, Some, None, IsSome, IfSome}
use Rattle.std.specs.List.{AllZip}
use Rattle.std.specs.Option.{option_map_or}
use Rattle.edit_model.specs.HtmlNames.declared.commands.Command.{Command}
use Rattle.edit_model.specs.DomModel.Forest.{IsWithin}
use Rattle.edit_model.specs.LiveRange.declared.places.Pair.{Pair}
use Rattle.edit_model.specs.State.{State}
use Rattle.edit_model.specs.Valid.{IsPlacedPair}
use Rattle.edit_model.specs.History.{Entry, begun, entry_of, joined_in}
use Rattle.edit_model.specs.Laws.{KeepsMark}
use Rattle.edit_model.specs.Outside.{outside_by, is_island}
use Rattle.edit_laws.specs.BelowHost.{below}
use Rattle.edit_laws.specs.InHost.{IsPairWithin}
use Rattle.edit_laws.specs.Islands.{StaysBelow, IsTakenOut}
use Rattle.edit_laws.specs.Order.{KeepsLeaves}
use Rattle.edit_engine.specs.Bringing.{BringsKnown}
use Rattle.edit_engine.specs.Commands.{row_of, action_of}
use Rattle.edit_engine.specs.Editing.{Editing, undone}
use Rattle.edit_engine.specs.Execution.{run_at, ran}
use Rattle.edit_engine.specs.Going.{goes_on, joins_by}
use Rattle.edit_engine.specs.HtmlAround.{KeepsHtmlAround}
use Rattle.edit_engine.specs.Labels.{KeepsLabels, DrawsLabels}

-- the document without the children of the host is as before; without a host all of it is
abbrev pub KeepsOutside : Option ℕ → Editing → Editing → Type 0
KeepsOutside host old new = outside_by host new.state.trees ≡ outside_by host old.state.trees

-- of the HTML of the document only that of the children of the host may change
abbrev pub KeepsHtml : Option ℕ → Editing → Editing → Type 0
KeepsHtml host old new = KeepsHtmlAround host old.state.trees new.state.trees

-- the marks keep their names and their order, and one whose points both stand apart from the host
-- its place
abbrev pub KeepsMarks : Option ℕ → Editing → Editing → Type 0
KeepsMarks host old new =
    AllZip (KeepsMark host old.state.trees) old.state.points.marks new.state.points.marks

-- where something was selected something is, and both its points stand in the document
abbrev pub KeepsSelection : Editing → Editing → Type 0
KeepsSelection old new = IsSome old.state.points.selection
    → (q : Pair) × (new.state.points.selection ≡ Some q) × IsPlacedPair new.state.trees q

-- Both points of what is selected stand at or below the host, or in a locked part of it. On a range
-- that stands in the document that is so unless nothing has changed: then the selection is the one
-- before, wherever it is.
abbrev pub SelectsIn : Option Pair → Editing → Editing → ℕ → Type 0
SelectsIn None old new h = IfSome new.state.points.selection (IsPairWithin new.state.trees h)
SelectsIn (Some range) old new h = IsPlacedPair old.state.trees range
    → (new ≡ old) ⊎ IfSome new.state.points.selection (IsPairWithin new.state.trees h)

abbrev pub KeepsSelectionIn : Option ℕ → Option Pair → Editing → Editing → Type 0
KeepsSelectionIn host at old new = (h : ℕ) → host ≡ Some h → SelectsIn at old new h

-- the last entry is now one more, with the edits of the state in which a command ended
pub record HasEntry (old new : Editing) (ended : State) : Type 0 where
  pub older : List Entry
  pub is : new.history.undo ≡ entry_of old.state ended ∷ older

-- these edits have joined those of the last entry, which nothing had come after
pub record HasJoined (old new : Editing) (ended : State) : Type 0 where
  pub joinable : goes_on old.going ≡ true
  pub last : Entry
  pub older : List Entry
  pub was : old.history.undo ≡ last ∷ older
  pub is : new.history.undo ≡ joined_in ended (last ∷ older)

-- The node isn't in the document any more: on the way between these two states a command took it out,
-- with a tree whose root was editable for the host or made by the command. The removal is one of the
-- edits of the last entry: those of the state in which the command ended are there.
pub record HasLeft (old new : Editing) (l : ℕ) (began ended : State) : Type 0 where
  pub out : IsWithin new.state.trees 0 l → ⊥
  pub entry : HasEntry old new ended ⊎ HasJoined old new ended
  pub taken : IsTakenOut began ended l

-- the run of the command was that, in the host, at the selection or at a range; a name that is none
-- of a command takes nothing out
abbrev pub IsTakenBy : Option Pair → Option Command → List ℕ → Editing → Editing → (h l : ℕ) → Type 0
IsTakenBy at None v old new h l = ⊥
IsTakenBy at (Some c) v old new h l =
    HasLeft old new l (begun (Some h) (row_of c).keeping old.state)
    (ran (Some h) old.state (row_of c).keeping (run_at at (action_of c v)))

-- each island of the host stands below it, with an equal tree, or the command took it out
abbrev pub KeepsIslands : (host : Option ℕ) → Option Pair → Option Command → List ℕ → Editing → Editing
    → Type 0
KeepsIslands host at c v old new =
    (h l : ℕ) → host ≡ Some h → is_island old.state.trees h l ≡ true
    → StaysBelow old.state.trees new.state.trees h l ⊎ IsTakenBy at c v old new h l

-- if the command is a keeping one, what stands below the host bears the same
-- characters, images and rules in the same order, and at most blanks may be missing
abbrev pub KeepsCharacters : Option ℕ → Option Command → Editing → Editing → Type 0
KeepsCharacters host command old new =
    (c : Command) (h : ℕ) → command ≡ Some c → (row_of c).keeping ≡ true → host ≡ Some h
    → KeepsLeaves (below old.state.trees h) (below new.state.trees h)

-- what is seen of two editors is the same: the document, the selection and the marks
pub record IsSeenAs (a b : Editing) : Type 0 where
  pub document : a.state.trees ≡ b.state.trees
  pub selection : a.state.points.selection ≡ b.state.points.selection
  pub marks : a.state.points.marks ≡ b.state.points.marks

-- whether the edits of the command join the last entry, of a joined one or not
abbrev pub joins_last : (joined : Bool) → Editing → Option Command → Bool
joins_last joined e command = option_map_or (joins_by joined e.going) command false

-- a command without an edit: the document and the history are as before
pub record HasNoEdit (old new : Editing) : Type 0 where
  pub document : new.state.trees ≡ old.state.trees
  pub history : new.history ≡ old.history

-- Undo gives back what was seen before a command, or if its edits join those of the last entry,
-- what undo would have given back before it. Or the command made none.
abbrev pub GivesBack : (joining : Bool) → Editing → Editing → Type 0
GivesBack false old new = HasNoEdit old new ⊎ IsSeenAs (undone new) old
GivesBack true old new = HasNoEdit old new ⊎ IsSeenAs (undone new) (undone old)

-- What every execution of a command keeps, whatever it answers. It works in a host, if there is one,
-- at the selection or at a range, by a command, if the name is one's, and with a value.
pub record CommandKeeps (host : Option ℕ) (at : Option Pair) (c : Option Command) (v : List ℕ)
    (old new : Editing) : Type 0 where
  pub outside : KeepsOutside host old new
  pub html : KeepsHtml host old new
  pub labels : KeepsLabels old new
  pub drawn : DrawsLabels old new
  pub known : BringsKnown c v old new
  pub selection : KeepsSelection old new
  pub selection_in : KeepsSelectionIn host at old new
  pub marks : KeepsMarks host old new
  pub islands : KeepsIslands host at c v old new
