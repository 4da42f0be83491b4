-- What a host that follows the document of a handle is told.
use Rattle.std.specs.Prelude.{◌≡◌, ℕ, ◌<◌, List, Option, Some}
use Rattle.packed_edits.specs.Packed.{packed}
use Rattle.edit_engine.specs.Changes.{CanFollow, changes_of}
use Rattle.edit_engine.specs.Editing.{EditorValue, document}
use Rattle.edit_engine.specs.Following.{first_following}
use Rattle.edit_engine.specs.KeptLabels.{IsKept, IsGone}
use Rattle.hedit_c.specs.declared.editor.status.Status.{Status}
use Rattle.hedit_c.specs.declared.editor.status.Status.TheVariants.{Done, No}
use Rattle.hedit_c.specs.Calls.{PutsUnlessMemory}

-- what holds between the editors of a handle before a call and after it
abbrev pub Between : Option EditorValue → Option EditorValue
    → (EditorValue → EditorValue → Type 0) → Type 0
Between (Some old) (Some new) told = told old new
Between _ _ told = Unit {0}

-- a tree that was the document before a call, and follows what it changed, is the document after it
abbrev pub StaysFollowed : Option EditorValue → Option EditorValue → Type 0
StaysFollowed old new = Between old new CanFollow

-- the call changes nothing that a host could follow
abbrev pub KeepsFollowing : EditorValue → EditorValue → Type 0
KeepsFollowing old new = new.following ≡ old.following

-- a new editor has changed nothing yet
abbrev pub BeginsFollowing : EditorValue → Type 0
BeginsFollowing v = v.following ≡ first_following

-- what the last call that changed something changed, packed, in a buffer
abbrev pub ChangesTell : Status → EditorValue → (old new : List ℕ) → (n : ℕ) → Type 0
ChangesTell status v old new n = PutsUnlessMemory status (packed (changes_of v)) old new n

-- how many calls changed something
abbrev pub RevisionTells : Status → EditorValue → (new : ℕ) → Type 0
RevisionTells Done v new = new ≡ v.following.revision
RevisionTells status v new = ⊥

-- whether the node of a label is kept, in the document or for undo and redo; a label that isn't is
-- gone
abbrev pub KeptTells : Status → EditorValue → (label : ℕ) → Type 0
KeptTells Done v label = IsKept (document v) label × (label < v.editing.state.next)
KeptTells No v label = ¬ (IsKept (document v) label) × IsGone label v.editing
KeptTells status v label = ⊥
