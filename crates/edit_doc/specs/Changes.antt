-- What the entries next to the cursor changed in the document, as edits of the document alone.
use Rattle.std.specs.Prelude.{◌≡◌, ℕ, Bool, List, [], ◌∷◌, take, drop, Option, Some, None, if◌then◌else◌}
use Rattle.edit_model.specs.DomModel.declared.Content.{Content}
use Rattle.edit_model.specs.DomModel.Forest.{Forest}
use Rattle.step_edits.specs.UndoLog.Turning.{back, forth, inverses_back}
use Rattle.step_edits.specs.UndoLog.Log.{first_entry}
use Rattle.step_edits.specs.ForestChanges.Change.{Change, applied, inverse}
use Rattle.step_edits.specs.EditSteps.declared.step.Step.{Step}
use Rattle.step_edits.specs.EditSteps.Step.{changes_of}
use Rattle.step_edits.specs.DocumentEdits.declared.edit.DocumentEdit.{DocumentEdit}
use Rattle.step_edits.specs.DocumentEdits.Followed.{followed}
use Rattle.step_edits.specs.DocumentEdits.Told.{told_all, told_back}
use Rattle.edit_model.specs.History.{Entry, document_of, used}
use Rattle.edit_model.specs.State.{State}
use Rattle.edit_doc.specs.Onward.{at_begin, with_made}
use Rattle.edit_doc.specs.Whole.{Began, first_edits}

-- ---- of the entries that undo would take, and those that redo would take

-- what the first of them changed, past the first k of its edits
abbrev pub changes_past : ℕ → List Entry → List DocumentEdit
changes_past k [] = []
changes_past k (e ∷ es) = told_all (drop k e.edits) (forth applied (take k e.edits) (at_begin e))

-- what undo changed when it took the first of them back
abbrev pub changes_undone : List Entry → List DocumentEdit
changes_undone [] = []
changes_undone (e ∷ es) = told_back e.edits (at_begin e)

-- edits of the document lead from one to another
abbrev pub Lead : List DocumentEdit → Forest Content → Forest Content → Type 0
Lead edits d d' = forth followed edits d ≡ d'

-- those that the first entry tells lead from the document before it to the one after it
abbrev pub ChangesLead : List Entry → Type 0
ChangesLead [] = Unit {0}
ChangesLead (e ∷ es) = Lead (changes_past 0 (e ∷ es)) e.before.document e.after.document

-- and those of taking it back lead back
abbrev pub UndoneLead : List Entry → Type 0
UndoneLead [] = Unit {0}
UndoneLead (e ∷ es) = Lead (changes_undone (e ∷ es)) e.after.document e.before.document

-- ---- of the running command

-- what it changed so far, where it began at one state and is at another
abbrev pub changes_since : State → State → List DocumentEdit
changes_since o s = told_all s.edits (with_made (document_of o.trees) (used s.edits s.made))

-- which leads from the document at its begin to the one that is there now
abbrev pub LeadsSince : Option Began → State → Type 0
LeadsSince None s = Unit {0}
LeadsSince (Some b) s =
    Lead (changes_since b.state s) (document_of b.state.trees) (document_of s.trees)

-- how many edits the entry had that it resumed
abbrev pub resumed_at : Bool → List Entry → ℕ
resumed_at resumed es = if resumed then first_edits es else 0

-- the entry of a commit tells it past those
abbrev pub IsToldSince : Option Began → State → List Entry → List Entry → Type 0
IsToldSince None s old new = Unit {0}
IsToldSince (Some b) s old new =
    changes_past (resumed_at b.resumed old) new ≡ changes_since b.state s

-- ---- of steps that take edits back, and of steps that make them again. No public clause cites
-- these

abbrev pub told_before : List Change → Forest Content → List DocumentEdit
told_before xs f = told_all (inverses_back applied inverse xs f) (back applied xs f)

abbrev pub steps_told : ℕ → List (List Step) → Forest Content → List DocumentEdit
steps_told k es f = told_before (changes_of (drop k (first_entry es))) f

abbrev pub steps_told_back : List (List Step) → Forest Content → List DocumentEdit
steps_told_back es f = told_back (changes_of (first_entry es)) f
