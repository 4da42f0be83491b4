-- What the clauses of the editor's calls say, as calls of the definition.
use Rattle.std.specs.Prelude.{◌≡◌, ◌⊎◌, ℕ, Bool, List, Option, Some, Result, Ok, Err, MatchOption, OnOk, OnErr}
use Rattle.command_gate.specs.Denied.{is_denied}
use Rattle.edit_model.specs.LiveRange.declared.places.Pair.{Pair}
use Rattle.edit_model.specs.LiveRange.declared.places.Point.{Point}
use Rattle.step_text.specs.ScriptRead.declared.act.Place.{Place}
use Rattle.edit_engine.specs.declared.answers.Answer.{Answer}
use Rattle.edit_engine.specs.declared.answers.ExecFault.{ExecFault}
use Rattle.edit_engine.specs.declared.answers.PlaceFault.{PlaceFault}
use Rattle.edit_engine.specs.declared.answers.PlaceFault.TheVariants.{BadPlace, TooManyMarks}
use Rattle.edit_engine.specs.declared.answers.RangeFault.{RangeFault}
use Rattle.edit_engine.specs.declared.answers.RangeFault.TheVariants as range_fault
use Rattle.edit_engine.specs.Editing.{Editing, EditorValue, undone, redone}
use Rattle.edit_engine.specs.Execution.{outcome, joined_outcome, gated_outcome, replaced_outcome, outcome_with, misplaced, Tells, TellsOnRange}
use Rattle.edit_engine.specs.Places.{pair_at, placed_pair, range_in, selecting, unselecting, marking, unmarking, IsCrowded}
use Rattle.replay_laws.specs.Calls.{Exec, ExecJoined, ExecGated, ExecWith, Replace, Select, SelectPoints, Unselect, Mark, MarkPoints, Unmark, Undo, Redo, IsAfter}

-- the clause of `Editor::select`, of the pair of its places
abbrev pub Selects : Option Pair → Result (Unit {0}) PlaceFault → EditorValue → EditorValue → Type 0
Selects pair result old new =
    MatchOption pair ((result ≡ Err BadPlace) × (new ≡ old))
    (λ p. (result ≡ Ok tt) × (new.editing ≡ selecting old.editing p))

-- the clauses of `Editor::mark`
pub record Marks (pair : Option Pair) (name : List ℕ) (result : Result (Unit {0}) PlaceFault)
    (old new : EditorValue) : Type 0 where
  pub marked : OnOk result ((p : Pair) × (pair ≡ Some p)
      × (new.editing ≡ marking old.editing name p))
  pub crowded : IsCrowded old.editing name → (result ≡ Err BadPlace) ⊎ (result ≡ Err TooManyMarks)
  pub err : OnErr result (new ≡ old)

-- where the clauses of a call hold of two editors, the second is the first after that call, or the
-- same
pub record ClausesAreCalls : Type 0 where
  pub exec : (r : Result Answer ExecFault) (old new : Editing) (name value : List ℕ)
      → Tells r old new (outcome old name value) → IsAfter (Exec name value) old new
  pub exec_joined : (r : Result Answer ExecFault) (old new : Editing) (name value : List ℕ)
      → Tells r old new (joined_outcome old name value) → IsAfter (ExecJoined name value) old new
  pub exec_gated : (r : Result Answer ExecFault) (old new : Editing) (denied : List (List ℕ))
      (name value : List ℕ) → Tells r old new (gated_outcome denied old name value)
      → IsAfter (ExecGated denied name value) old new
  pub exec_with :
      (r : Result Answer RangeFault) (old new : EditorValue) (denied : List (List ℕ))
      (range : Option Pair) (joined : Bool) (name value : List ℕ)
      → MatchOption (range_in old.editing.state.trees range)
      ((r ≡ misplaced (is_denied denied name)) × (new ≡ old))
      (λ at. TellsOnRange r old.editing new.editing
      (outcome_with denied at joined old.editing name value))
      → IsAfter (ExecWith denied range joined name value) old.editing new.editing
  pub replace :
      (r : Result Answer RangeFault) (old new : EditorValue) (anchor focus : Point)
      (text : List ℕ)
      → MatchOption (placed_pair old.editing.state.trees anchor focus)
      ((r ≡ Err range_fault.BadPlace) × (new ≡ old))
      (λ range. TellsOnRange r old.editing new.editing
      (replaced_outcome old.editing range text))
      → IsAfter (Replace anchor focus text) old.editing new.editing
  pub select : (r : Result (Unit {0}) PlaceFault) (old new : EditorValue) (anchor focus : Place)
      → Selects (pair_at old.editing.state.trees anchor focus) r old new
      → IsAfter (Select anchor focus) old.editing new.editing
  pub select_points :
      (r : Result (Unit {0}) PlaceFault) (old new : EditorValue) (anchor focus : Point)
      → Selects (placed_pair old.editing.state.trees anchor focus) r old new
      → IsAfter (SelectPoints anchor focus) old.editing new.editing
  pub unselect : (old new : Editing) → new ≡ unselecting old → IsAfter Unselect old new
  pub mark :
      (r : Result (Unit {0}) PlaceFault) (old new : EditorValue) (name : List ℕ)
      (anchor focus : Place)
      → Marks (pair_at old.editing.state.trees anchor focus) name r old new
      → IsAfter (Mark name anchor focus) old.editing new.editing
  pub mark_points :
      (r : Result (Unit {0}) PlaceFault) (old new : EditorValue) (name : List ℕ)
      (anchor focus : Point)
      → Marks (placed_pair old.editing.state.trees anchor focus) name r old new
      → IsAfter (MarkPoints name anchor focus) old.editing new.editing
  pub unmark : (old new : Editing) (name : List ℕ) → new ≡ unmarking old name
      → IsAfter (Unmark name) old new
  pub undo : (old new : Editing) → new ≡ undone old → IsAfter Undo old new
  pub redo : (old new : Editing) → new ≡ redone old → IsAfter Redo old new
