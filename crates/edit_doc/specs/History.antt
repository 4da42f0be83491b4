-- How the fields of a document under edits give its state and its history. No public clause cites
-- this module.
--
-- The history is computed: undoing the noted steps of the open entry gives the forest as the
-- command began, and from there undoing, or redoing, an entry at a time gives the forest at each
-- kept place of the history.
use Rattle.std.specs.Prelude.{ℕ, Bool, false, true, ◌&&◌, nat_lt, nat_le, if◌then◌else◌, List, [], ◌∷◌, map, Option, Some, None}
use Rattle.edit_model.specs.DomModel.declared.Content.{Content}
use Rattle.edit_model.specs.DomModel.Change.{Change}
use Rattle.edit_model.specs.DomModel.Forest.{Forest, tops, times}
use Rattle.edit_model.specs.DomModel.Forest.Forest.{Nil, Tree}
use Rattle.edit_model.specs.DomModel.Pruned.{pruned}
use Rattle.edit_model.specs.DomModel.ArenaState.{ArenaState as Arena}
use Rattle.edit_model.specs.LiveRange.declared.places.Places.{Places}
use Rattle.edit_model.specs.LiveRange.Names.{shown, named, marks_of}
use Rattle.step_edits.specs.UndoLog.Turning.{back, forth, inverses_back}
use Rattle.step_edits.specs.UndoLog.Log.{Log, Open, noted}
use Rattle.step_edits.specs.UndoLog.Log.Open.{Closed, Begun, Resumed}
use Rattle.step_edits.specs.ForestChanges.Change.{applied, inverse}
use Rattle.step_edits.specs.EditSteps.declared.step.Step.{Step}
use Rattle.step_edits.specs.EditSteps.Step.{changes_of}
use Rattle.edit_model.specs.State.{State}
use Rattle.edit_model.specs.Gives.{label_of}
use Rattle.edit_model.specs.History.{View, Entry, History, document_of, used, undone_state, undone_history, redone_state, redone_history}
use Rattle.edit_doc.specs.declared.command.EntrySnapshot.{EntrySnapshot}
use Rattle.edit_doc.specs.declared.command.Command.{Command}
use Rattle.edit_doc.specs.declared.history.Way.{Way}
use Rattle.edit_doc.specs.declared.history.Way.TheVariants.{Back, Forth}
use Rattle.edit_doc.specs.Live.{Live}
use Rattle.edit_doc.specs.Trail.{Trail}
use Rattle.edit_doc.specs.Whole.{Began, Whole}

-- the forest before the edits that the steps take back, and after the edits that they make again
abbrev pub forest_before : List Step → Forest Content → Forest Content
forest_before xs f = back applied (changes_of xs) f

abbrev pub forest_after : List Step → Forest Content → Forest Content
forest_after xs f = forth applied (changes_of xs) f

-- the edits that the steps take back from the forest
abbrev pub edits_before : List Step → Forest Content → List Change
edits_before xs f = inverses_back applied inverse (changes_of xs) f

-- the roots of the trees from a label on, each with its content
abbrev pub roots_from : ℕ → Forest Content → List (ℕ × Content)
roots_from n Nil = []
roots_from n (Tree l c ks rest) =
    if nat_le n l then (l, c) ∷ roots_from n rest else roots_from n rest

-- the forest as the running command began, with the nodes that it made since, each alone in a loose
-- tree; without a command, the forest itself
abbrev pub begun_forest : Log Step → Forest Content → Forest Content
begun_forest log f = forest_before (noted log.open_entry) f

-- The trees that the definitions don't see: those that were loose as the command began. Outside
-- commands these are all loose trees, since `start` is the next label then.
abbrev pub is_hidden : Forest Content → ℕ → ℕ → Bool
is_hidden g start l = nat_lt 0 l && (nat_lt l start && nat_lt 0 (times (tops g) l))

abbrev pub seen_trees : Log Step → ℕ → Forest Content → Forest Content
seen_trees log start f = pruned (is_hidden (begun_forest log f) start) f

-- ---- the state

abbrev pub state_of : Live → Command → Log Step → State
state_of t c log = record {
  trees = seen_trees log c.start t.arena.trees;
  points = t.points;
  overrides = t.overrides;
  flags = t.flags;
  next = t.arena.next;
  cap = t.arena.cap;
  start = c.start;
  host = label_of c.host;
  keeping = c.keeping;
  edits = edits_before (noted log.open_entry) t.arena.trees;
  made = roots_from c.start (begun_forest log t.arena.trees);
}

-- the state as the running command began
abbrev pub begun_state : Arena → List (List ℕ) → Command → Log Step → State
begun_state a names c log = record {
  trees = document_of (begun_forest log a.trees);
  points = shown names c.kept.places;
  overrides = c.kept.overrides;
  flags = c.kept.flags;
  next = c.start;
  cap = a.cap;
  start = c.start;
  host = None;
  keeping = false;
  edits = [];
  made = [];
}

abbrev pub began_with : State → Open Step → Option Began
began_with s Closed = None
began_with s (Begun xs) = Some (record { state = s; resumed = false })
began_with s (Resumed xs) = Some (record { state = s; resumed = true })

-- ---- the history

abbrev pub view_at : List (List ℕ) → Forest Content → Places → View
view_at names f p =
    record {
      document = document_of f;
      selection = p.selection;
      marks = map (named names) (marks_of p);
    }

-- ---- the two ways through the history

abbrev pub other : Way → Way
other Back = Forth
other Forth = Back

-- the forest to which the steps of an entry lead
abbrev pub led : Way → List Step → Forest Content → Forest Content
led Back e f = forest_before e f
led Forth e f = forest_after e f

-- the forest before an entry, and the one after it, that lead from one place to another
abbrev pub older : {A : Type 0} → Way → A → A → A
older Back here there = there
older Forth here there = here

abbrev pub newer : {A : Type 0} → Way → A → A → A
newer Back here there = here
newer Forth here there = there

-- the edits of an entry
abbrev pub edits_of : Way → List Step → Forest Content → List Change
edits_of Back e f = edits_before e f
edits_of Forth e f = changes_of e

-- the entries that lie that way from the forest on
abbrev pub entries : Way → List (List ℕ) → Forest Content → List (List Step) → List EntrySnapshot
    → List Entry
entries w names f [] bs = []
entries w names f (e ∷ es) [] = []
entries w names f (e ∷ es) (b ∷ bs) =
    record {
      before = view_at names (older w f (led w e f)) b.span.before;
      after = view_at names (newer w f (led w e f)) b.span.after;
      edits = edits_of w e f;
      made = used (edits_of w e f) (roots_from b.span.first_label (older w f (led w e f)));
    } ∷ entries w names (led w e f) es bs

abbrev pub undo_entries : List (List ℕ) → Forest Content → List (List Step) → List EntrySnapshot
    → List Entry
undo_entries = entries Back

abbrev pub redo_entries : List (List ℕ) → Forest Content → List (List Step) → List EntrySnapshot
    → List Entry
redo_entries = entries Forth

abbrev pub history_of : List (List ℕ) → Forest Content → Trail → History
history_of names f t = record {
  undo = undo_entries names f t.log.undo t.past;
  redo = redo_entries names f t.log.redo t.future;
  depth = t.log.depth;
  dropped = t.log.dropped;
}

-- ---- the document

abbrev pub whole_of : Live → Command → Trail → Whole
whole_of t c h = record {
  state = state_of t c h.log;
  history = history_of t.points.names (begun_forest h.log t.arena.trees) h;
  began = began_with (begun_state t.arena t.points.names c h.log) h.log.open_entry;
  held = t.arena.held;
}

-- ---- after the first entry that way is taken

abbrev pub entries_along : Way → Whole → List Entry
entries_along Back d = d.history.undo
entries_along Forth d = d.history.redo

abbrev pub whole_along : Way → Whole → Whole
whole_along Back d =
    record d { state = undone_state d.history d.state; history = undone_history d.history }
whole_along Forth d =
    record d { state = redone_state d.history d.state; history = redone_history d.history }
