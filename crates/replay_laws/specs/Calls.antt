-- The calls of an editor that change it, what each leaves, and the editors that they lead to.
use Rattle.std.specs.Prelude.{◌≡◌, ◌⊎◌, ℕ, ◌<◌, Bool, List, [], ◌∷◌, Option, Some, None, if◌then◌else◌}
use Rattle.edit_model.specs.DomModel.ArenaState.{ArenaState as Arena}
use Rattle.edit_model.specs.LiveRange.declared.places.Pair.{Pair}
use Rattle.edit_model.specs.LiveRange.declared.places.Point.{Point}
use Rattle.inline_value.specs.EditDoc.Whole.{HasNoLoose}
use Rattle.inline_value.specs.ForestChanges.Named.{Each}
use Rattle.step_text.specs.ScriptRead.declared.act.Place.{Place}
use Rattle.grammar_laws.specs.Proper.{IsText}
use Rattle.edit_engine.specs.Editing.{Editing, new_editing, undone, redone}
use Rattle.edit_engine.specs.Execution.{Outcome, Refused, Deep, Full, Acted, outcome, joined_outcome, gated_outcome, replaced_outcome, outcome_with}
use Rattle.edit_engine.specs.Places.{pair_at, placed_pair, range_in, selecting, unselecting, marking, unmarking}
use Rattle.edit_session.specs.Replies.{is_crowded}

-- as the methods of `Editor` that they are named after
pub data Call : Type 0 where
  Exec : (name value : List ℕ) → Call
  ExecJoined : (name value : List ℕ) → Call
  ExecGated : (denied : List (List ℕ)) (name value : List ℕ) → Call
  ExecWith : (denied : List (List ℕ)) (range : Option Pair) (joined : Bool) (name value : List ℕ)
      → Call
  Replace : (anchor focus : Point) (text : List ℕ) → Call
  Select : (anchor focus : Place) → Call
  SelectPoints : (anchor focus : Point) → Call
  Unselect : Call
  Mark : (name : List ℕ) (anchor focus : Place) → Call
  MarkPoints : (name : List ℕ) (anchor focus : Point) → Call
  Unmark : (name : List ℕ) → Call
  Undo : Call
  Redo : Call

-- ---- the editor after a call; one that is refused leaves it as it is

abbrev pub after_outcome : Editing → Outcome → Editing
after_outcome e Refused = e
after_outcome e Deep = e
after_outcome e Full = e
after_outcome e (Acted answer after) = after

abbrev pub after_replacing : Editing → List ℕ → Option Pair → Editing
after_replacing e text None = e
after_replacing e text (Some range) = after_outcome e (replaced_outcome e range text)

-- on a range, if one is told, whose ends stand in the document
abbrev pub after_options : List (List ℕ) → (joined : Bool) → Editing → (name value : List ℕ)
    → Option (Option Pair) → Editing
after_options denied joined e name value None = e
after_options denied joined e name value (Some at) =
    after_outcome e (outcome_with denied at joined e name value)

abbrev pub after_selecting : Editing → Option Pair → Editing
after_selecting e None = e
after_selecting e (Some pair) = selecting e pair

abbrev pub after_marking : Editing → List ℕ → Option Pair → Editing
after_marking e name None = e
after_marking e name (Some pair) = if is_crowded e name then e else marking e name pair

unfoldable pub called : Call → Editing → Editing
called (Exec name value) e = after_outcome e (outcome e name value)
called (ExecJoined name value) e = after_outcome e (joined_outcome e name value)
called (ExecGated denied name value) e = after_outcome e (gated_outcome denied e name value)
called (ExecWith denied range joined name value) e =
    after_options denied joined e name value (range_in e.state.trees range)
called (Replace anchor focus text) e =
    after_replacing e text (placed_pair e.state.trees anchor focus)
called (Select anchor focus) e = after_selecting e (pair_at e.state.trees anchor focus)
called (SelectPoints anchor focus) e = after_selecting e (placed_pair e.state.trees anchor focus)
called Unselect e = unselecting e
called (Mark name anchor focus) e = after_marking e name (pair_at e.state.trees anchor focus)
called (MarkPoints name anchor focus) e =
    after_marking e name (placed_pair e.state.trees anchor focus)
called (Unmark name) e = unmarking e name
called Undo e = undone e
called Redo e = redone e

unfoldable pub after_calls : List Call → Editing → Editing
after_calls [] e = e
after_calls (call ∷ calls) e = after_calls calls (called call e)

-- a call left the editor as it was, as where memory ran out, or as the definition says
abbrev pub IsAfter : Call → Editing → Editing → Type 0
IsAfter call old new = (new ≡ old) ⊎ (new ≡ called call old)

-- ---- the editors that calls lead to

-- values are characters, as those that the methods take
abbrev pub HasText : Call → Type 0
HasText (Exec name value) = IsText value
HasText (ExecJoined name value) = IsText value
HasText (ExecGated denied name value) = IsText value
HasText (ExecWith denied range joined name value) = IsText value
HasText (Replace anchor focus text) = IsText text
HasText _ = Unit {0}

-- the editor is one to which calls lead from the nodes of a page
pub record IsOfCalls (page : Arena) (e : Editing) : Type 0 where
  pub loose : HasNoLoose page
  pub depth : ℕ
  pub some_depth : 0 < depth
  pub calls : List Call
  pub texts : Each HasText calls
  pub is : after_calls calls (new_editing page depth) ≡ e
