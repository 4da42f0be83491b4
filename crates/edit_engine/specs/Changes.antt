-- What the last call changed, told to a host that keeps a tree of its own.
use Rattle.std.specs.Prelude.{◌≡◌, ◌⊎◌, List}
use Rattle.inline_value.specs.DocumentEdits.declared.edit.DocumentEdit.{DocumentEdit}
use Rattle.edit_model.specs.History.{History}
use Rattle.inline_value.specs.EditDoc.Changes.{Lead, changes_past, changes_undone}
use Rattle.edit_engine.specs.Following.{next_revision}
use Rattle.edit_engine.specs.Editing.{EditorValue}
use Rattle.edit_engine.specs.declared.following.LastChange.{LastChange}
use Rattle.edit_engine.specs.declared.following.LastChange.TheVariants.{Made, Undone}

-- the edits of the document that the last change was, from the first to the last
abbrev pub changes_by : LastChange → History → List DocumentEdit
changes_by (Made kept) h = changes_past kept h.undo
changes_by Undone h = changes_undone h.redo

abbrev pub changes_of : EditorValue → List DocumentEdit
changes_of v = changes_by v.following.last v.editing.history

-- A call changed nothing of the document, and tells nothing new; or it is one change more, and a tree
-- that was the document and follows the edits is the document.
abbrev pub CanFollow : EditorValue → EditorValue → Type 0
CanFollow old new =
    ((new.following ≡ old.following) × (new.editing.state.trees ≡ old.editing.state.trees))
    ⊎ ((new.following.revision ≡ next_revision old.following.revision)
    × Lead (changes_of new) old.editing.state.trees new.editing.state.trees)
