-- An editor: the state of its document, the history that undo goes through, what a next command may
-- go on with, and what it keeps for hosts that follow the document.
use Rattle.std.specs.Prelude.{◌≡◌, ℕ, ◌<◌, true, false, List, [], ◌∷◌, length, zero, suc, Option, None, refl}
use Rattle.std.specs.Coded.{Coded, code_by, coded×, coded_ℕ, coded_list, coded_option}
use Rattle.edit_model.specs.DomModel.ArenaState.{ArenaState as Arena}
use Rattle.edit_model.specs.State.{State}
use Rattle.edit_model.specs.History.{Entry, History, undone_state, undone_history, redone_state, redone_history}
use Rattle.edit_model.specs.Codes.{state_code, history_code}
use Rattle.inline_value.specs.EditDoc.Whole.{Whole, IsClosed, first_state}
use Rattle.edit_engine.specs.Following.{IsWithin, following_code}
use Rattle.edit_engine.specs.declared.following.Following.{Following}
use Rattle.edit_engine.specs.Going.{going_code, goes_on}
use Rattle.edit_engine.specs.declared.going.Going.{Going}
use Rattle.edit_engine.specs.declared.going.Going.TheVariants.{Over}

pub record Editing : Type 0 where
  pub state : State
  pub history : History
  pub going : Going

abbrev pub editing_code : Coded Editing
editing_code =
    code_by (State × (History × Going)) (coded× state_code (coded× history_code going_code))
    (λ e. (e.state, (e.history, e.going))) (λ c.
    record { state = c.0; history = c.1.0; going = c.1.1 }) (λ _. refl)

-- what a contract sees of an editor: with the label of the node in each slot, and what it keeps for
-- hosts that follow the document
pub record EditorValue : Type 0 where
  pub editing : Editing
  pub held : List (Option ℕ)
  pub following : Following

abbrev pub value_code : Coded EditorValue
value_code =
    code_by
    (Editing × (List (Option ℕ) × Following))
    (coded× editing_code (coded× (coded_list (coded_option coded_ℕ)) following_code))
    (λ v. (v.editing, (v.held, v.following)))
    (λ c. record { editing = c.0; held = c.1.0; following = c.1.1 })
    (λ _. refl)

abbrev pub value_of : Whole → Going → Following → EditorValue
value_of d going following = record {
  editing = record { state = d.state; history = d.history; going = going };
  held = d.held;
  following = following;
}

-- the document, in which no command is running
abbrev pub document : EditorValue → Whole
document v = record {
  state = v.editing.state;
  history = v.editing.history;
  began = None;
  held = v.held;
}

-- the editor of a page's nodes, without selection, marks, overrides and history
abbrev pub new_editing : Arena → ℕ → Editing
new_editing a depth = record {
  state = first_state a;
  history = record { undo = []; redo = []; depth = depth; dropped = false };
  going = Over;
}

-- in another state, with nothing to go on with
abbrev pub stopped_at : Editing → State → Editing
stopped_at e s = record e { state = s; going = Over }

-- ---- what holds of an editor between its calls

-- there is a last entry for more edits to join, and redo would take none
pub record IsJoinable (h : History) : Type 0 where
  pub some : 0 < length h.undo
  pub last : h.redo ≡ []

-- no command is running, and where a command may go on with the last entry it can be joined
pub record IsResting (doc : Whole) (going : Going) (following : Following) : Type 0 where
  pub closed : IsClosed doc
  pub joinable : goes_on going ≡ true → IsJoinable doc.history
  pub within : IsWithin following.last doc.history

-- ---- through the history; nothing changes where no entry lies that way, and one that is taken
-- leaves nothing to go on with

abbrev pub going_past : List Entry → Going → Going
going_past [] going = going
going_past (e ∷ es) going = Over

abbrev pub undone : Editing → Editing
undone e = record {
  state = undone_state e.history e.state;
  history = undone_history e.history;
  going = going_past e.history.undo e.going;
}

abbrev pub redone : Editing → Editing
redone e = record {
  state = redone_state e.history e.state;
  history = redone_history e.history;
  going = going_past e.history.redo e.going;
}

-- so many times
unfoldable pub turned_times : ℕ → (Editing → Editing) → Editing → Editing
turned_times zero turn e = e
turned_times (suc n) turn e = turned_times n turn (turn e)
