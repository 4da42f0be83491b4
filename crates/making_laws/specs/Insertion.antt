-- The laws of deleting and inserting: the run of each command is tame, where the source has the
-- characters that are typed.
use Rattle.std.specs.Prelude.{ℕ, List}
use Rattle.text_deletion.specs.Delete.{delete}
use Rattle.text_insertion.specs.Paragraph.{insert_paragraph}
use Rattle.text_insertion.specs.Typing.{insert_text}
use Rattle.insert_objects.specs.Image.{insert_image}
use Rattle.insert_objects.specs.LineBreak.{insert_line_break}
use Rattle.insert_objects.specs.Rule.{insert_horizontal_rule}
use Rattle.inline_value.specs.ForestChanges.Named.{Each}
use Rattle.making_laws.specs.Known.{Source, IsKnownCharacter}
use Rattle.making_laws.specs.Tame.{Tame, TameFrom}

abbrev pub DeleteIsTame : Type 0
DeleteIsTame = Tame delete

abbrev pub InsertTextIsTame : Type 0
InsertTextIsTame = (value : List ℕ) (source : Source) → Each (IsKnownCharacter source) value
    → TameFrom source (insert_text value)

abbrev pub InsertParagraphIsTame : Type 0
InsertParagraphIsTame = Tame insert_paragraph

abbrev pub InsertLineBreakIsTame : Type 0
InsertLineBreakIsTame = Tame insert_line_break

abbrev pub InsertHorizontalRuleIsTame : Type 0
InsertHorizontalRuleIsTame = Tame insert_horizontal_rule

abbrev pub InsertImageIsTame : Type 0
InsertImageIsTame = (value : List ℕ) → Tame (insert_image value)
