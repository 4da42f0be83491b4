-- The laws of commands, and of what commands take from others: of each, that its run leaves both
-- points of the selection at or below the host, with the scratch pair or without it.
use Rattle.std.specs.Prelude.{ℕ, Bool, true, false, List}
use Rattle.edit_model.specs.HtmlNames.declared.commands.Command.{Command}
use Rattle.edit_laws.specs.InHost.{StaysInHost}
use Rattle.inline_value.specs.declared.overrides.Override.{Override}
use Rattle.block_commands.specs.FormatBlock.{format_block}
use Rattle.block_commands.specs.Justify.{justify}
use Rattle.inline_commands.specs.Linking.{create_link}
use Rattle.inline_commands.specs.RemovingFormat.{remove_format}
use Rattle.inline_commands.specs.RestoringStates.{restore_states}
use Rattle.inline_commands.specs.Toggling.{toggle_style, toggle_script}
use Rattle.inline_commands.specs.Unlink.{unlink}
use Rattle.inline_commands.specs.ValueCommands.{apply_value}
use Rattle.list_indent.specs.Commands.{indent, outdent}
use Rattle.list_toggle.specs.Toggle.{toggle_lists}
use Rattle.list_toggle.specs.declared.toggling.ListKind.{ListKind}
use Rattle.delete_core.specs.declared.deletion.Manner.{Manner}
use Rattle.delete_core.specs.Deletion.{delete_selection}
use Rattle.text_deletion.specs.Delete.{delete}
use Rattle.text_insertion.specs.Paragraph.{insert_paragraph}
use Rattle.text_insertion.specs.Typing.{insert_text}
use Rattle.insert_objects.specs.LineBreak.{insert_line_break}
use Rattle.insert_objects.specs.Rule.{insert_horizontal_rule}
use Rattle.insert_objects.specs.Image.{insert_image}

-- bold, italic, underline and strikethrough
abbrev pub StylesStay : Type 0
StylesStay = (scratched : Bool) (c : Command) → StaysInHost scratched (toggle_style c)

-- subscript and superscript
abbrev pub ScriptsStay : Type 0
ScriptsStay = (scratched : Bool) (c : Command) → StaysInHost scratched (toggle_script c)

abbrev pub LinkingStays : Type 0
LinkingStays = (scratched : Bool) (v : List ℕ) → StaysInHost scratched (create_link v)

abbrev pub UnlinkStays : Type 0
UnlinkStays = (scratched : Bool) → StaysInHost scratched unlink

abbrev pub FormatGoes : Type 0
FormatGoes = (scratched : Bool) → StaysInHost scratched remove_format

-- fontName, fontSize, foreColor, backColor and hiliteColor
abbrev pub ValuesStay : Type 0
ValuesStay = (scratched : Bool) (c : Command) (v : List ℕ) → StaysInHost scratched (apply_value c v)

-- recorded states and values that are restored
abbrev pub StatesComeBack : Type 0
StatesComeBack = (scratched : Bool) (list : List Override) → StaysInHost scratched (restore_states list)

abbrev pub BlocksStay : Type 0
BlocksStay = (scratched : Bool) (v : List ℕ) → StaysInHost scratched (format_block v)

-- the four that justify
abbrev pub JustifyingStays : Type 0
JustifyingStays =
    (scratched : Bool) (alignment : List ℕ) → StaysInHost scratched (justify alignment)

abbrev pub IndentStays : Type 0
IndentStays = (scratched : Bool) → StaysInHost scratched indent

abbrev pub OutdentStays : Type 0
OutdentStays = (scratched : Bool) → StaysInHost scratched outdent

-- insertOrderedList, and insertUnorderedList, which keep a range in the scratch pair that may stand
-- outside
abbrev pub ListTogglesStay : Type 0
ListTogglesStay = (kind : ListKind) → StaysInHost false (toggle_lists kind)

-- deleting the selection, which other commands take too
abbrev pub SelectionGoes : Type 0
SelectionGoes = (scratched : Bool) (m : Manner) → StaysInHost scratched (delete_selection m)

-- the caret of delete comes from the scratch pair
abbrev pub DeleteStays : Type 0
DeleteStays = StaysInHost true delete

abbrev pub InsertTextStays : Type 0
InsertTextStays = (scratched : Bool) (value : List ℕ) → StaysInHost scratched (insert_text value)

abbrev pub InsertParagraphStays : Type 0
InsertParagraphStays = (scratched : Bool) → StaysInHost scratched insert_paragraph

abbrev pub InsertLineBreakStays : Type 0
InsertLineBreakStays = (scratched : Bool) → StaysInHost scratched insert_line_break

abbrev pub InsertHorizontalRuleStays : Type 0
InsertHorizontalRuleStays = (scratched : Bool) → StaysInHost scratched insert_horizontal_rule

abbrev pub InsertImageStays : Type 0
InsertImageStays = (scratched : Bool) (value : List ℕ) → StaysInHost scratched (insert_image value)
