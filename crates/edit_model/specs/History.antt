-- The history of a document, and what begins and ends a command and goes through the history.
use Rattle.std.specs.Prelude.{ℕ, Bool, false, ◌||◌, nat_le, List, [], ◌∷◌, ◌++◌, length, take, filter, Option, None, if◌then◌else◌, ◌==◌}
use Rattle.point_order.specs.DomModel.declared.Content.{Content}
use Rattle.point_order.specs.DomModel.Change.{Change, named_in}
use Rattle.point_order.specs.DomModel.Forest.{Forest, tree_of}
use Rattle.point_order.specs.LiveRange.declared.places.Pair.{Pair}
use Rattle.point_order.specs.LiveRange.PointsEdit.{has_label}
use Rattle.edit_model.specs.State.{State}
use Rattle.edit_model.specs.Overrides.{no_overrides}

-- what undo sets: the labelled document, the selection and the marks
pub record View : Type 0 where
  pub document : Forest Content
  pub selection : Option Pair
  pub marks : List (List ℕ × Pair)

-- the views before and after a command, or several that share the entry, the edits between them,
-- and those of the nodes made that an edit names, each with its content as made
pub record Entry : Type 0 where
  pub before : View
  pub after : View
  pub edits : List Change
  pub made : List (ℕ × Content)

-- the entries that undo would take, the next one first, those that redo would take, the next one
-- first, how many may be kept, and whether one was ever dropped as the oldest
pub record History : Type 0 where
  pub undo : List Entry
  pub redo : List Entry
  pub depth : ℕ
  pub dropped : Bool

-- ---- views

abbrev pub document_of : Forest Content → Forest Content
document_of f = tree_of f 0

unfoldable pub view_of : State → View
view_of s = record {
  document = document_of s.trees;
  selection = s.points.selection;
  marks = s.points.marks;
}

-- the state at a view, without overrides
unfoldable pub at_view : View → State → State
at_view v s = record s {
  trees = v.document;
  points = record s.points { selection = v.selection; scratch = None; marks = v.marks };
  overrides = no_overrides;
}

-- ---- a command

-- what a state is outside commands: no loose trees, no scratch pair, and nothing of a command
unfoldable pub rested : State → State
rested s = record s {
  trees = document_of s.trees;
  points = record s.points { scratch = None };
  start = s.next;
  host = None;
  keeping = false;
  edits = [];
  made = [];
}

-- a command begins, with its affected host
unfoldable pub begun : Option ℕ → Bool → State → State
begun host keeping s =
    record s { start = s.next; host = host; keeping = keeping; edits = []; made = [] }

-- the nodes that a change of the list names
unfoldable pub used : List Change → List (ℕ × Content) → List (ℕ × Content)
used xs nodes = filter (λ n. has_label (named_in xs) n.0) nodes

abbrev pub entry_of : State → State → Entry
entry_of began s =
    record {
      before = view_of began;
      after = view_of s;
      edits = s.edits;
      made = used s.edits s.made;
    }

-- what a commit leaves of the history: an entry for a command with an edit, in place of those after
-- the cursor, without the oldest where there are too many
unfoldable pub with_entry : Entry → History → History
with_entry e h = record h {
  undo = take h.depth (e ∷ h.undo);
  redo = [];
  dropped = h.dropped || nat_le h.depth (length h.undo);
}

-- the last entry with more edits
abbrev pub joined_in : State → List Entry → List Entry
joined_in s [] = []
joined_in s (e ∷ es) = record {
  before = e.before;
  after = view_of s;
  edits = e.edits ++ s.edits;
  made = e.made ++ used s.edits s.made;
} ∷ es

unfoldable pub joined : State → History → History
joined s h = record h { undo = joined_in s h.undo }

-- the history after a command that began at one state, or resumed the last entry there, and ends at
-- another
unfoldable pub recorded : Bool → State → State → History → History
recorded resumed began s h =
    if length s.edits == 0 then h
    else (if resumed then joined s h else with_entry (entry_of began s) h)

-- ---- undo and redo

abbrev pub undone_state_by : List Entry → State → State
undone_state_by [] s = s
undone_state_by (e ∷ es) s = at_view e.before s

abbrev pub redone_state_by : List Entry → State → State
redone_state_by [] s = s
redone_state_by (e ∷ es) s = at_view e.after s

abbrev pub undone_history_by : List Entry → History → History
undone_history_by [] h = h
undone_history_by (e ∷ es) h = record h { undo = es; redo = e ∷ h.redo }

abbrev pub redone_history_by : List Entry → History → History
redone_history_by [] h = h
redone_history_by (e ∷ es) h = record h { undo = e ∷ h.undo; redo = es }

-- the state and the history after undo, and after redo; nothing changes where no entry lies that
-- way
unfoldable pub undone_state : History → State → State
undone_state h s = undone_state_by h.undo s

unfoldable pub undone_history : History → History
undone_history h = undone_history_by h.undo h

unfoldable pub redone_state : History → State → State
redone_state h s = redone_state_by h.redo s

unfoldable pub redone_history : History → History
redone_history h = redone_history_by h.redo h
