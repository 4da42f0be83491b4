-- The action of each command ignores marks and the cap.
use Rattle.std.proofs.Common.{ℕ, Bool, List, true, false, codes, not}
use Rattle.edit_model.specs.HtmlNames.declared.commands.Command.{Command}
use Rattle.edit_model.specs.HtmlNames.declared.commands.Command.TheVariants as command
use Rattle.edit_model.specs.Run.{Run}
use Rattle.inline_value.specs.EditQuery.Carets.{is_caret}
use Rattle.inline_value.specs.declared.overrides.Override.{Override}
use Rattle.inline_value.specs.Overrides.{overrides_of}
use Rattle.list_toggle.specs.declared.toggling.ListKind.TheVariants.{Ordered, Unordered}
use Rattle.edit_engine.specs.Framing.{restore_at_caret, give_back, recorded_action, framed}
use Rattle.edit_engine.specs.Commands.{set_css_styling, set_separator, own_action, is_value, row_of, action_of}
use Rattle.independence_laws.proofs.InlineRuns.{ignores_restore_states, ignores_toggle_style, ignores_toggle_script, ignores_create_link, ignores_unlink, ignores_apply_value, ignores_remove_format}
use Rattle.independence_laws.proofs.IgnoringRuns.{ignores_answer, ignoring_parts}
use Rattle.independence_laws.proofs.BlockRuns.{ignores_format_block, ignores_justify}
use Rattle.independence_laws.proofs.IndentRuns.{ignores_indent, ignores_outdent}
use Rattle.independence_laws.proofs.DeleteRuns.{ignores_delete}
use Rattle.independence_laws.proofs.TypingRuns.{ignores_insert_text}
use Rattle.independence_laws.proofs.ParagraphRuns.{ignores_insert_paragraph}
use Rattle.independence_laws.proofs.ListToggleRuns.{ignores_toggle_lists}
use Rattle.independence_laws.proofs.ObjectRuns.{ignores_insert_line_break, ignores_insert_horizontal_rule, ignores_insert_image}
use Rattle.independence_laws.specs.Ignoring.{IgnoresMarks}

-- ---- the frame

ignores_restore_at_caret : (list : List Override) → IgnoresMarks (restore_at_caret list)
unfolding restore_at_caret is_caret
ignores_restore_at_caret list = search (ignoring_parts, ignores_restore_states)

ignores_give_back : (list : List Override) (b : Bool) → IgnoresMarks (give_back list b)
ignores_give_back list true = search (ignoring_parts, ignores_restore_at_caret)
ignores_give_back list false = ignores_answer false

ignores_recorded_action : (m : Run Bool) → IgnoresMarks m → IgnoresMarks (recorded_action m)
unfolding recorded_action overrides_of
ignores_recorded_action m h = search (ignoring_parts, ignores_give_back, h)

ignores_framed : (recording : Bool) (m : Run Bool) → IgnoresMarks m → IgnoresMarks (framed recording m)
ignores_framed true m h = ignores_recorded_action m h
ignores_framed false m h = h

-- ---- commands on flags, and all commands

ignores_set_css_styling : (on : Bool) → IgnoresMarks (set_css_styling on)
unfolding set_css_styling
ignores_set_css_styling on = search ignoring_parts

ignores_set_separator : (value : List ℕ) → IgnoresMarks (set_separator value)
unfolding set_separator
ignores_set_separator value = search ignoring_parts

ignores_own_action : (c : Command) (value : List ℕ) → IgnoresMarks (own_action c value)
ignores_own_action command.Bold value = ignores_toggle_style command.Bold
ignores_own_action command.Italic value = ignores_toggle_style command.Italic
ignores_own_action command.Underline value = ignores_toggle_style command.Underline
ignores_own_action command.Strikethrough value = ignores_toggle_style command.Strikethrough
ignores_own_action command.Subscript value = ignores_toggle_script command.Subscript
ignores_own_action command.Superscript value = ignores_toggle_script command.Superscript
ignores_own_action command.CreateLink value = ignores_create_link value
ignores_own_action command.Unlink value = ignores_unlink
ignores_own_action command.FontName value = ignores_apply_value command.FontName value
ignores_own_action command.FontSize value = ignores_apply_value command.FontSize value
ignores_own_action command.ForeColor value = ignores_apply_value command.ForeColor value
ignores_own_action command.BackColor value = ignores_apply_value command.BackColor value
ignores_own_action command.HiliteColor value = ignores_apply_value command.HiliteColor value
ignores_own_action command.RemoveFormat value = ignores_remove_format
ignores_own_action command.FormatBlock value = ignores_format_block value
ignores_own_action command.JustifyLeft value = ignores_justify (codes "left")
ignores_own_action command.JustifyCenter value = ignores_justify (codes "center")
ignores_own_action command.JustifyRight value = ignores_justify (codes "right")
ignores_own_action command.JustifyFull value = ignores_justify (codes "justify")
ignores_own_action command.Indent value = ignores_indent
ignores_own_action command.Outdent value = ignores_outdent
ignores_own_action command.Delete value = ignores_delete
ignores_own_action command.InsertText value = ignores_insert_text value
ignores_own_action command.InsertParagraph value = ignores_insert_paragraph
ignores_own_action command.StyleWithCss value = ignores_set_css_styling (not (is_value value (codes "false")))
ignores_own_action command.UseCss value = ignores_set_css_styling (is_value value (codes "false"))
ignores_own_action command.DefaultParagraphSeparator value = ignores_set_separator value
ignores_own_action command.InsertOrderedList value = ignores_toggle_lists Ordered
ignores_own_action command.InsertUnorderedList value = ignores_toggle_lists Unordered
ignores_own_action command.InsertLineBreak value = ignores_insert_line_break
ignores_own_action command.InsertHorizontalRule value = ignores_insert_horizontal_rule
ignores_own_action command.InsertImage value = ignores_insert_image value

pub ignores_action : (c : Command) (value : List ℕ) → IgnoresMarks (action_of c value)
ignores_action c value = ignores_framed (row_of c).recording (own_action c value) (ignores_own_action c value)
