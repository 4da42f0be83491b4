-- The laws that insertParagraph ends where it would with the tail extracted by single edits.
use Rattle.std.specs.Prelude.{◌≡◌, ℕ, true, false, Some}
use Rattle.edit_model.specs.DomModel.Editing.{is_host}
use Rattle.edit_model.specs.DomModel.Forest.{IsWithin}
use Rattle.edit_model.specs.State.{State}
use Rattle.edit_model.specs.History.{begun}
use Rattle.edit_model.specs.Laws.{LeavesStatesOn}
use Rattle.edit_model.specs.Run.{Reaches, final}
use Rattle.edit_model.specs.Valid.{IsValid}
use Rattle.text_insertion.specs.Paragraph.{insert_paragraph_inside, insert_paragraph}
use Rattle.caret_laws.specs.SingleParagraph.{inside_parted, paragraph_inserted}

-- From each state that a command comes to which keeps no contents, in a host of the document, and
-- which changes no state of contenteditable: at its beginning for insertParagraph, and for
-- insertText, which does insertParagraph at a line feed, wherever that stands in the text.
abbrev pub ParagraphsExtractSingly : Type 0
ParagraphsExtractSingly =
    (s t : State) (h : ℕ) → IsValid s → is_host s.trees h ≡ true → IsWithin s.trees 0 h
    → (r : Reaches (begun (Some h) false s) t) → LeavesStatesOn r
    → final insert_paragraph t ≡ paragraph_inserted t

-- so it is with the steps after the first one, which erases what is selected
abbrev pub PartsExtractSingly : Type 0
PartsExtractSingly =
    (s t : State) (h : ℕ) → IsValid s → is_host s.trees h ≡ true → IsWithin s.trees 0 h
    → (r : Reaches (begun (Some h) false s) t) → LeavesStatesOn r
    → final insert_paragraph_inside t ≡ inside_parted t
