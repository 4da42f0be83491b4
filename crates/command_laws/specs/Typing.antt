-- The laws of inserting text and paragraphs: of each, that its run leaves the states of
-- contenteditable. Both erase what is selected, so there is no law of order.
use Rattle.std.specs.Prelude.{ℕ, List}
use Rattle.edit_laws.specs.Steady.{Steady}
use Rattle.text_insertion.specs.Paragraph.{insert_paragraph}
use Rattle.text_insertion.specs.Typing.{insert_text}

abbrev pub InsertTextIsSteady : Type 0
InsertTextIsSteady = (value : List ℕ) → Steady (insert_text value)

abbrev pub InsertParagraphIsSteady : Type 0
InsertParagraphIsSteady = Steady insert_paragraph
