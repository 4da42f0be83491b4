-- What a contract sees of a document under edits.
use Rattle.std.specs.Prelude.{◌≡◌, ℕ, ◌<◌, ◌≤◌, Bool, false, List, [], ◌∷◌, length, Option, Some, None, IsSome}
use Rattle.edit_model.specs.DomModel.Forest.{tops}
use Rattle.edit_model.specs.DomModel.ArenaState.{ArenaState as Arena}
use Rattle.edit_model.specs.LiveRange.LivePoints.{no_points}
use Rattle.edit_model.specs.State.{State}
use Rattle.edit_model.specs.Overrides.{no_overrides}
use Rattle.edit_model.specs.History.{Entry, History, rested, begun, recorded}
use Rattle.edit_model.specs.Valid.{IsValid}

-- what is kept of the begin of the open command: the state before it, and whether it resumed the
-- last entry
pub record Began : Type 0 where
  pub state : State
  pub resumed : Bool

-- the state, the history, the open command if there is one, and the label of the node in each slot
pub record Whole : Type 0 where
  pub state : State
  pub history : History
  pub began : Option Began
  pub held : List (Option ℕ)

abbrev pub IsOpen : Whole → Type 0
IsOpen d = IsSome d.began

abbrev pub IsClosed : Whole → Type 0
IsClosed d = d.began ≡ None

-- another state
abbrev pub with_state : Whole → State → Whole
with_state d s = record d { state = s }

-- ---- new documents

-- a page's document, without selection, marks, overrides and history
unfoldable pub first_state : Arena → State
first_state a = record {
  trees = a.trees;
  points = no_points;
  overrides = no_overrides;
  flags = record { css_styling = false; paragraphs = false };
  next = a.next;
  cap = a.cap;
  start = a.next;
  host = None;
  keeping = false;
  edits = [];
  made = [];
}

unfoldable pub first_doc : Arena → ℕ → Whole
first_doc a depth = record {
  state = first_state a;
  history = record { undo = []; redo = []; depth = depth; dropped = false };
  began = None;
  held = a.held;
}

-- an arena without loose trees
abbrev pub HasNoLoose : Arena → Type 0
HasNoLoose a = tops a.trees ≡ 0 ∷ []

-- ---- commands

unfoldable pub opened : Option ℕ → Bool → Bool → Whole → Whole
opened host keeping resumed d = record d {
  state = begun host keeping d.state;
  began = Some (record { state = d.state; resumed = resumed });
}

-- the state and the history that a commit leaves
abbrev pub committed_history : Whole → Option Began → History
committed_history d None = d.history
committed_history d (Some b) = recorded b.resumed b.state d.state d.history

unfoldable pub history_committed : Whole → History
history_committed d = committed_history d d.began

-- the state that rolling back gives
abbrev pub rolled_to : State → Option Began → State
rolled_to s None = s
rolled_to s (Some b) = b.state

unfoldable pub state_rolled_back : Whole → State
state_rolled_back d = rolled_to d.state d.began

-- how many edits the entry has that undo would take, and redo
abbrev pub first_edits : List Entry → ℕ
first_edits [] = 0
first_edits (e ∷ es) = length e.edits

-- ---- what holds of every document under edits

pub record IsDoc (d : Whole) : Type 0 where
  pub valid : IsValid d.state
  pub capped : d.state.next ≤ d.state.cap
  pub resting : IsClosed d → rested d.state ≡ d.state
  pub some_depth : 0 < d.history.depth
  pub within : length d.history.undo ≤ d.history.depth
