-- What a recorder keeps of the steps that it sees.
use Rattle.std.specs.Prelude.{◌≡◌, Bool, true, List, ◌++◌}
use Rattle.document_edits.specs.DomModel.ArenaState.{ArenaState}
use Rattle.edit_steps.specs.declared.step.Step.{Step}
use Rattle.edit_steps.specs.Step.{change_of}
use Rattle.document_edits.specs.declared.edit.DocumentEdit.{DocumentEdit}
use Rattle.document_edits.specs.Told.{told}

-- the edits of the document so far, and whether memory sufficed for all of them
pub record Recorded : Type 0 where
  pub edits : List DocumentEdit
  pub whole : Bool

-- a step that is seen just before it is applied to an arena is told after the others
abbrev pub Records : Recorded → Step → ArenaState → Recorded → Type 0
Records old x a new =
    new.whole ≡ true → (old.whole ≡ true) × (new.edits ≡ old.edits ++ told (change_of x) a.trees)
