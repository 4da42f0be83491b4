-- Restoring states and values is tame.
use Rattle.std.proofs.Common.{ℕ, List}
use Rattle.edit_model.specs.HtmlNames.declared.commands.Command.{Command}
use Rattle.edit_model.specs.Action.{Override}
use Rattle.edit_model.specs.declared.settings.Setting.{Setting}
use Rattle.edit_model.specs.declared.settings.Setting.TheVariants.{On, Off, Text, Absent}
use Rattle.inline_commands.specs.RestoringStates.{override_by, set_override, turn_round, toggle_state, restore_on, restore_off, restore_shown, restore_link, restore_size, restore_text, restore_setting, restore_entry, restore_states}
use Rattle.making_laws.specs.Tame.{Tame}
use Rattle.making_laws.proofs.TameRuns.{tame_answer, tame_parts, tame_perform}
use Rattle.making_laws.proofs.TogglingRuns.{tame_apply_value, tame_toggle_script, tame_toggle_style}
use Rattle.making_laws.proofs.LinkingRuns.{tame_create_link}
use Rattle.edit_model.specs.HtmlNames.declared.commands.Command.TheVariants as command
use Rattle.inline_value.specs.declared.overrides.Override as overrides

tame_override : (c : Command) (setting : Setting) → Tame (override_by c setting)
tame_override c Absent = tame_answer tt
tame_override c On = tame_perform (Override c On) tt
tame_override c Off = tame_perform (Override c Off) tt
tame_override c (Text v) = tame_perform (Override c (Text v)) tt

tame_set_override : (o : overrides.Override) → Tame (set_override o)
unfolding set_override
tame_set_override o = tame_override o.command o.setting

tame_turn : (c : Command) → Tame (turn_round c)
tame_turn command.Bold = tame_toggle_style command.Bold
tame_turn command.Italic = tame_toggle_style command.Italic
tame_turn command.Underline = tame_toggle_style command.Underline
tame_turn command.Strikethrough = tame_toggle_style command.Strikethrough
tame_turn command.Subscript = tame_toggle_script command.Subscript
tame_turn command.Superscript = tame_toggle_script command.Superscript
tame_turn command.CreateLink = tame_toggle_style command.CreateLink
tame_turn command.Unlink = tame_toggle_style command.Unlink
tame_turn command.FontName = tame_toggle_style command.FontName
tame_turn command.FontSize = tame_toggle_style command.FontSize
tame_turn command.ForeColor = tame_toggle_style command.ForeColor
tame_turn command.BackColor = tame_toggle_style command.BackColor
tame_turn command.HiliteColor = tame_toggle_style command.HiliteColor
tame_turn command.RemoveFormat = tame_toggle_style command.RemoveFormat
tame_turn command.FormatBlock = tame_toggle_style command.FormatBlock
tame_turn command.JustifyLeft = tame_toggle_style command.JustifyLeft
tame_turn command.JustifyCenter = tame_toggle_style command.JustifyCenter
tame_turn command.JustifyRight = tame_toggle_style command.JustifyRight
tame_turn command.JustifyFull = tame_toggle_style command.JustifyFull
tame_turn command.Indent = tame_toggle_style command.Indent
tame_turn command.Outdent = tame_toggle_style command.Outdent
tame_turn command.Delete = tame_toggle_style command.Delete
tame_turn command.InsertText = tame_toggle_style command.InsertText
tame_turn command.InsertParagraph = tame_toggle_style command.InsertParagraph
tame_turn command.StyleWithCss = tame_toggle_style command.StyleWithCss
tame_turn command.UseCss = tame_toggle_style command.UseCss
tame_turn command.DefaultParagraphSeparator = tame_toggle_style command.DefaultParagraphSeparator
tame_turn command.InsertOrderedList = tame_toggle_style command.InsertOrderedList
tame_turn command.InsertUnorderedList = tame_toggle_style command.InsertUnorderedList
tame_turn command.InsertLineBreak = tame_toggle_style command.InsertLineBreak
tame_turn command.InsertHorizontalRule = tame_toggle_style command.InsertHorizontalRule
tame_turn command.InsertImage = tame_toggle_style command.InsertImage

tame_turned : (c : Command) → Tame (toggle_state c)
unfolding toggle_state
tame_turned c = search (tame_parts, tame_turn)

tame_on : (c : Command) → Tame (restore_on c)
unfolding restore_on
tame_on c = search (tame_parts, tame_turned)

tame_off : (c : Command) → Tame (restore_off c)
unfolding restore_off
tame_off c = search (tame_parts, tame_turned)

tame_shown : (c : Command) (v : List ℕ) → Tame (restore_shown c v)
unfolding restore_shown
tame_shown c v = search (tame_parts, tame_apply_value)

tame_link : (v : List ℕ) → Tame (restore_link v)
unfolding restore_link
tame_link v = search (tame_parts, tame_create_link)

tame_size : (v : List ℕ) → Tame (restore_size v)
unfolding restore_size
tame_size v = search (tame_parts, tame_apply_value)

tame_text : (c : Command) (v : List ℕ) → Tame (restore_text c v)
tame_text command.Bold v = tame_answer tt
tame_text command.Italic v = tame_answer tt
tame_text command.Underline v = tame_answer tt
tame_text command.Strikethrough v = tame_answer tt
tame_text command.Subscript v = tame_answer tt
tame_text command.Superscript v = tame_answer tt
tame_text command.CreateLink v = tame_link v
tame_text command.Unlink v = tame_answer tt
tame_text command.FontName v = tame_shown command.FontName v
tame_text command.FontSize v = tame_size v
tame_text command.ForeColor v = tame_shown command.ForeColor v
tame_text command.BackColor v = tame_answer tt
tame_text command.HiliteColor v = tame_shown command.HiliteColor v
tame_text command.RemoveFormat v = tame_answer tt
tame_text command.FormatBlock v = tame_answer tt
tame_text command.JustifyLeft v = tame_answer tt
tame_text command.JustifyCenter v = tame_answer tt
tame_text command.JustifyRight v = tame_answer tt
tame_text command.JustifyFull v = tame_answer tt
tame_text command.Indent v = tame_answer tt
tame_text command.Outdent v = tame_answer tt
tame_text command.Delete v = tame_answer tt
tame_text command.InsertText v = tame_answer tt
tame_text command.InsertParagraph v = tame_answer tt
tame_text command.StyleWithCss v = tame_answer tt
tame_text command.UseCss v = tame_answer tt
tame_text command.DefaultParagraphSeparator v = tame_answer tt
tame_text command.InsertOrderedList v = tame_answer tt
tame_text command.InsertUnorderedList v = tame_answer tt
tame_text command.InsertLineBreak v = tame_answer tt
tame_text command.InsertHorizontalRule v = tame_answer tt
tame_text command.InsertImage v = tame_answer tt

tame_setting : (c : Command) (setting : Setting) → Tame (restore_setting c setting)
tame_setting c On = tame_on c
tame_setting c Off = tame_off c
tame_setting c (Text v) = tame_text c v
tame_setting c Absent = tame_answer tt

tame_entry : (o : overrides.Override) → Tame (restore_entry o)
unfolding restore_entry
tame_entry o = tame_setting o.command o.setting

pub tame_restore_states : (list : List overrides.Override) → Tame (restore_states list)
unfolding restore_states
tame_restore_states list = search (tame_parts, tame_set_override, tame_entry)
