-- The entries of the history as forward edits.
use Rattle.std.specs.Prelude.{◌≡◌, ℕ, ◌+◌, ◌<◌, Bool, false, List, [], ◌∷◌, length, slice_index_or, map, Option, Some, None, unwrap_or, if◌then◌else◌, ◌==◌}
use Rattle.std.specs.Option.{option_map_or, option_and_then}
use Rattle.edit_model.specs.DomModel.declared.Content.{Content}
use Rattle.edit_model.specs.DomModel.Change.{Change}
use Rattle.edit_model.specs.DomModel.Change as change
use Rattle.edit_model.specs.DomModel.Contents.{name_in, chars_in}
use Rattle.edit_model.specs.DomModel.Forest.{Forest, content_of, either}
use Rattle.edit_model.specs.DomModel.Room.{spliced}
use Rattle.edit_model.specs.LiveRange.PointsEdit.{has_label}
use Rattle.step_edits.specs.ForestChanges.Change.{wholes}
use Rattle.edit_model.specs.History.{Entry}
use Rattle.edit_doc.specs.Onward.{at_begin}
use Rattle.edit_doc.specs.Whole.{Whole}
use Rattle.edit_doc.specs.declared.logged.LoggedEdit.{LoggedEdit}
use Rattle.edit_doc.specs.declared.logged.LoggedEdit.TheVariants.{Remove, Insert, Move, SetText, SetAttributes}
use Rattle.edit_doc.specs.declared.logged.MadeNode.{MadeNode}

-- the nodes that the commands of an entry made and its edits name, each as made, and its edits,
-- from the first to the last, with the whole contents afterwards
pub record Logged : Type 0 where
  pub made : List MadeNode
  pub edits : List LoggedEdit

-- the content with which a node was made
abbrev pub content_made : List (ℕ × Content) → ℕ → Option Content
content_made [] l = None
content_made (n ∷ ns) l = if n.0 == l then Some n.1 else content_made ns l

-- the content of a node before the edits of an entry: that in the document before it, or that with
-- which it was made
abbrev pub content_in : Entry → ℕ → Option Content
content_in e l = either (content_of e.before.document l) (content_made e.made l)

-- the name of the element with this content
abbrev pub element_name : Option Content → List ℕ
element_name o = unwrap_or (option_and_then name_in o) []

-- the characters of a node with this content
abbrev pub node_chars : Option Content → List ℕ
node_chars o = unwrap_or (option_and_then chars_in o) []

-- an edit, where each node has the content that is told
abbrev pub logged_edit : (ℕ → Option Content) → Change → LoggedEdit
logged_edit content (change.Remove n) = Remove n
logged_edit content (change.Insert n p b) = Insert n p b
logged_edit content (change.Move n p b) = Move n p b
logged_edit content (change.SetText n words) = SetText n words
logged_edit content (change.Splice n at rest taken put) =
    SetText n (spliced (node_chars (content n)) at (length taken) put)
logged_edit content (change.SetAttributes n list) = SetAttributes n (element_name (content n)) list

abbrev pub made_node : ℕ × Content → MadeNode
made_node n = record { label = n.0; content = n.1 }

abbrev pub logged_with : (ℕ → Option Content) → List (ℕ × Content) → List Change → Logged
logged_with content made edits =
    record { made = map made_node made; edits = map (logged_edit content) edits }

abbrev pub logged_entry : Entry → Logged
logged_entry e = logged_with (content_in e) e.made (wholes e.edits (at_begin e))

-- the nodes and the edits of the first of some entries
abbrev pub first_made : List Entry → List MadeNode
first_made [] = []
first_made (e ∷ es) = (logged_entry e).made

abbrev pub first_logged : List Entry → List LoggedEdit
first_logged [] = []
first_logged (e ∷ es) = (logged_entry e).edits

-- the node of a label with its content, if there is one
abbrev pub node_at : Forest Content → ℕ → List (ℕ × Content)
node_at f l = option_map_or (λ c. (l, c) ∷ []) (content_of f l) []

-- there are marks of labels from `first` on, each of which tells whether the list has the label
abbrev pub TellNamed : ℕ → List ℕ → List Bool → Type 0
TellNamed first ls marks =
    (i : ℕ) → i < length marks → slice_index_or marks i false ≡ has_label ls (first + i)

-- These are the entries that undo and redo would take, and all else but the document and the points
-- and overrides at it is as it was.
pub record HasMoved (old new : Whole) (us rs : List Entry) : Type 0 where
  pub undo : new.history.undo ≡ us
  pub redo : new.history.redo ≡ rs
  pub rest : new ≡ record old {
    state = record old.state {
      trees = new.state.trees;
      points = record old.state.points {
        selection = new.state.points.selection;
        scratch = new.state.points.scratch;
        marks = new.state.points.marks;
      };
      overrides = new.state.overrides;
    };
    history = record old.history { undo = us; redo = rs };
  }
