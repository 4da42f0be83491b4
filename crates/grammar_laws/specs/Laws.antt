-- What runs of the grammar keep, and that the runs of commands are such: a value that a command takes
-- has to be a text of scalar values.
use Rattle.std.specs.Prelude.{ℕ, List}
use Rattle.block_commands.specs.FormatBlock.{format_block}
use Rattle.block_commands.specs.Justify.{justify}
use Rattle.edit_model.specs.State.{State}
use Rattle.edit_model.specs.Valid.{IsValid}
use Rattle.edit_model.specs.Run.{Reaches}
use Rattle.edit_model.specs.HtmlNames.declared.commands.Command.{Command}
use Rattle.inline_commands.specs.Linking.{create_link}
use Rattle.inline_commands.specs.RemovingFormat.{remove_format}
use Rattle.inline_commands.specs.Toggling.{toggle_style, toggle_script}
use Rattle.inline_commands.specs.Unlink.{unlink}
use Rattle.inline_commands.specs.ValueCommands.{apply_value}
use Rattle.insert_objects.specs.Image.{insert_image}
use Rattle.insert_objects.specs.LineBreak.{insert_line_break}
use Rattle.insert_objects.specs.Rule.{insert_horizontal_rule}
use Rattle.list_indent.specs.Commands.{indent, outdent}
use Rattle.list_toggle.specs.Toggle.{toggle_lists}
use Rattle.list_toggle.specs.declared.toggling.ListKind.{ListKind}
use Rattle.text_deletion.specs.Delete.{delete}
use Rattle.text_insertion.specs.Paragraph.{insert_paragraph}
use Rattle.text_insertion.specs.Typing.{insert_text}
use Rattle.grammar_laws.specs.Proper.{IsText, IsProperState}
use Rattle.grammar_laws.specs.Runs.{ProperOn, Proper}

-- what is of the grammar before is so after
abbrev pub StayProper : Type 0
StayProper =
    (s t : State) (r : Reaches s t) → IsValid s → IsProperState s → ProperOn r → IsProperState t

-- bold, italic, underline, strikethrough, subscript, superscript, links, and what takes them away
pub record InlineIsProper : Type 0 where
  pub styles : (c : Command) → Proper (toggle_style c)
  pub scripts : (c : Command) → Proper (toggle_script c)
  pub values : (c : Command) (value : List ℕ) → IsText value → Proper (apply_value c value)
  pub links : (value : List ℕ) → IsText value → Proper (create_link value)
  pub unlinks : Proper unlink
  pub formats : Proper remove_format

-- blocks and lists
pub record BlocksAreProper : Type 0 where
  pub formats : (value : List ℕ) → Proper (format_block value)
  pub justifies : (alignment : List ℕ) → IsText alignment → Proper (justify alignment)
  pub indents : Proper indent
  pub outdents : Proper outdent
  pub lists : (kind : ListKind) → Proper (toggle_lists kind)

-- deleting and inserting
pub record InsertionIsProper : Type 0 where
  pub deletes : Proper delete
  pub types : (value : List ℕ) → IsText value → Proper (insert_text value)
  pub paragraphs : Proper insert_paragraph
  pub breaks : Proper insert_line_break
  pub rules : Proper insert_horizontal_rule
  pub images : (value : List ℕ) → IsText value → Proper (insert_image value)
