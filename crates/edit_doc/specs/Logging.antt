-- What is kept for a log of steps that are seen as they are made. No public clause cites this module.
use Rattle.std.specs.Prelude.{◌≡◌, Bool, true, List, [], ◌∷◌, ◌++◌}
use Rattle.edit_model.specs.DomModel.declared.Content.{Content}
use Rattle.edit_model.specs.DomModel.Forest.{Forest, content_of}
use Rattle.edit_model.specs.DomModel.ArenaState.{ArenaState}
use Rattle.step_edits.specs.UndoLog.Turning.{back, inverses_back}
use Rattle.step_edits.specs.UndoLog.Log.{first_entry}
use Rattle.step_edits.specs.ForestChanges.Change.{Change, whole, applied, inverse}
use Rattle.step_edits.specs.EditSteps.declared.step.Step.{Step}
use Rattle.step_edits.specs.EditSteps.Step.{change_of, changes_of}
use Rattle.edit_doc.specs.declared.logged.LoggedEdit.{LoggedEdit}
use Rattle.edit_doc.specs.Logged.{logged_edit}

-- an edit with the whole contents afterwards, where it is made at a forest
abbrev pub logged_at : Change → Forest Content → LoggedEdit
logged_at x f = logged_edit (content_of f) (whole x f)

-- the same of edits one after another, from the first to the last
unfoldable pub logged_along : List Change → Forest Content → List LoggedEdit
logged_along [] f = []
logged_along (x ∷ xs) f = logged_at x f ∷ logged_along xs (applied x f)

-- the edits that lead to a forest, where steps take them back from there
abbrev pub logged_before : List Change → Forest Content → List LoggedEdit
logged_before xs f = logged_along (inverses_back applied inverse xs f) (back applied xs f)

abbrev pub steps_logged : List (List Step) → Forest Content → List LoggedEdit
steps_logged es f = logged_before (changes_of (first_entry es)) f

-- the edits so far, and whether memory sufficed for all of them
pub record Recording : Type 0 where
  pub edits : List LoggedEdit
  pub complete : Bool

-- a step that is seen just before it is made is kept after the others
abbrev pub Records : Recording → Step → ArenaState → Recording → Type 0
Records old x a new =
    new.complete ≡ true
    → (old.complete ≡ true) × (new.edits ≡ old.edits ++ logged_at (change_of x) a.trees ∷ [])
