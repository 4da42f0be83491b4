-- The commands: one row of facts for each, its action, and when it is enabled.
use Rattle.std.specs.Prelude.{ℕ, Bool, true, false, not, ◌||◌, List, map, codes, bytes_eq, is_some, Option, Some, None, if◌then◌else◌}
use Rattle.std.specs.Char.{to_ascii_lowercase}
use Rattle.edit_model.specs.HtmlNames.declared.commands.Command.{Command}
use Rattle.edit_model.specs.HtmlNames.declared.commands.Command.TheVariants as command
use Rattle.edit_model.specs.State.{State}
use Rattle.edit_model.specs.Run.{Run, ◌>>◌, answer, look, given, set_flags}
use Rattle.edit_model.specs.declared.settings.Flags.{Flags}
use Rattle.edit_engine.specs.declared.commands.Row.{Row}
use Rattle.inline_value.specs.EditActions.ActiveRange.{affected_host}
use Rattle.edit_engine.specs.Framing.{framed}
use Rattle.block_commands.specs.FormatBlock.{format_block}
use Rattle.block_commands.specs.Justify.{justify}
use Rattle.inline_commands.specs.Linking.{create_link}
use Rattle.inline_commands.specs.RemovingFormat.{remove_format}
use Rattle.inline_commands.specs.Toggling.{toggle_style, toggle_script}
use Rattle.inline_commands.specs.Unlink.{unlink}
use Rattle.inline_commands.specs.ValueCommands.{apply_value}
use Rattle.insert_objects.specs.LineBreak.{insert_line_break}
use Rattle.insert_objects.specs.Rule.{insert_horizontal_rule}
use Rattle.insert_objects.specs.Image.{insert_image}
use Rattle.list_indent.specs.Commands.{indent, outdent}
use Rattle.list_toggle.specs.Toggle.{toggle_lists}
use Rattle.list_toggle.specs.declared.toggling.ListKind.TheVariants.{Ordered, Unordered}
use Rattle.text_deletion.specs.Delete.{delete}
use Rattle.text_insertion.specs.Paragraph.{insert_paragraph}
use Rattle.text_insertion.specs.Typing.{insert_text}

-- ---- one row a command

abbrev pub facts : (keeping needs_host recording : Bool) → Row
facts keeping needs_host recording =
    record { keeping = keeping; needs_host = needs_host; recording = recording }

abbrev pub row_of : Command → Row
row_of command.Bold = facts true true false
row_of command.Italic = facts true true false
row_of command.Underline = facts true true false
row_of command.Strikethrough = facts true true false
row_of command.Subscript = facts true true false
row_of command.Superscript = facts true true false
row_of command.CreateLink = facts true true false
row_of command.Unlink = facts true true false
row_of command.FontName = facts true true false
row_of command.FontSize = facts true true false
row_of command.ForeColor = facts true true false
row_of command.BackColor = facts true true false
row_of command.HiliteColor = facts true true false
row_of command.RemoveFormat = facts true true false
row_of command.FormatBlock = facts true true true
row_of command.JustifyLeft = facts true true true
row_of command.JustifyCenter = facts true true true
row_of command.JustifyRight = facts true true true
row_of command.JustifyFull = facts true true true
row_of command.Indent = facts true true true
row_of command.Outdent = facts true true true
row_of command.Delete = facts false true true
row_of command.InsertText = facts false true false
row_of command.InsertParagraph = facts false true true
row_of command.StyleWithCss = facts false false false
row_of command.UseCss = facts false false false
row_of command.DefaultParagraphSeparator = facts false false false
row_of command.InsertOrderedList = facts true true true
row_of command.InsertUnorderedList = facts true true true
row_of command.InsertLineBreak = facts false true true
row_of command.InsertHorizontalRule = facts false true true
row_of command.InsertImage = facts false true false

-- the command that types
abbrev pub types_text : Command → Bool
types_text command.InsertText = true
types_text _ = false

-- ---- the commands on flags

abbrev pub is_value : List ℕ → List ℕ → Bool
is_value value word = bytes_eq (map to_ascii_lowercase value) word

abbrev pub flags_taken : Flags → Run Bool
flags_taken flags = set_flags flags >> answer true

-- styleWithCSS and useCSS, step 1
unfoldable pub set_css_styling : Bool → Run Bool
set_css_styling on = look λ s. flags_taken (record s.flags { css_styling = on })

-- defaultParagraphSeparator, step 1: the default single-line container is p or div; any other value
-- is refused
abbrev pub separator_set : Flags → List ℕ → Option Flags
separator_set flags value =
    if is_value value (codes "p") then Some (record flags { paragraphs = true })
    else (if is_value value (codes "div") then Some (record flags { paragraphs = false }) else None)

-- defaultParagraphSeparator, steps 1 and 2
unfoldable pub set_separator : List ℕ → Run Bool
set_separator value = look λ s. given (separator_set s.flags value) (answer false) flags_taken

-- ---- the action of each command, with a value

abbrev pub own_action : Command → List ℕ → Run Bool
own_action command.Bold value = toggle_style command.Bold
own_action command.Italic value = toggle_style command.Italic
own_action command.Underline value = toggle_style command.Underline
own_action command.Strikethrough value = toggle_style command.Strikethrough
own_action command.Subscript value = toggle_script command.Subscript
own_action command.Superscript value = toggle_script command.Superscript
own_action command.CreateLink value = create_link value
own_action command.Unlink value = unlink
own_action command.FontName value = apply_value command.FontName value
own_action command.FontSize value = apply_value command.FontSize value
own_action command.ForeColor value = apply_value command.ForeColor value
own_action command.BackColor value = apply_value command.BackColor value
own_action command.HiliteColor value = apply_value command.HiliteColor value
own_action command.RemoveFormat value = remove_format
own_action command.FormatBlock value = format_block value
own_action command.JustifyLeft value = justify (codes "left")
own_action command.JustifyCenter value = justify (codes "center")
own_action command.JustifyRight value = justify (codes "right")
own_action command.JustifyFull value = justify (codes "justify")
own_action command.Indent value = indent
own_action command.Outdent value = outdent
own_action command.Delete value = delete
own_action command.InsertText value = insert_text value
own_action command.InsertParagraph value = insert_paragraph
own_action command.StyleWithCss value = set_css_styling (not (is_value value (codes "false")))
own_action command.UseCss value = set_css_styling (is_value value (codes "false"))
own_action command.DefaultParagraphSeparator value = set_separator value
own_action command.InsertOrderedList value = toggle_lists Ordered
own_action command.InsertUnorderedList value = toggle_lists Unordered
own_action command.InsertLineBreak value = insert_line_break
own_action command.InsertHorizontalRule value = insert_horizontal_rule
own_action command.InsertImage value = insert_image value

-- the action as it is taken, with the overrides recorded before and restored after it where the
-- command does so
abbrev pub action_of : Command → List ℕ → Run Bool
action_of c value = framed (row_of c).recording (own_action c value)

-- a command that needs a host is enabled only where there is an affected editing host
abbrev pub is_enabled_in : Option ℕ → Command → Bool
is_enabled_in host c = not (row_of c).needs_host || is_some host

unfoldable pub is_enabled : State → Command → Bool
is_enabled s c = is_enabled_in (affected_host s) c
