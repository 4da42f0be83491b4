-- Restoring states and values keeps the order, and leaves the states of contenteditable.
use Rattle.std.proofs.Common.{ℕ, List}
use Rattle.edit_model.specs.HtmlNames.declared.commands.Command.{Command}
use Rattle.edit_model.specs.HtmlNames.declared.commands.Command.TheVariants as command
use Rattle.edit_model.specs.Action.{Override}
use Rattle.edit_model.specs.declared.settings.Setting.{Setting}
use Rattle.edit_model.specs.declared.settings.Setting.TheVariants.{On, Off, Text, Absent}
use Rattle.edit_laws.specs.Steady.{Steady}
use Rattle.edit_laws.specs.OrderPreserving.{OrderPreserving}
use Rattle.inline_value.specs.declared.overrides.Override as overrides
use Rattle.inline_commands.specs.RestoringStates.{override_by, set_override, turn_round, toggle_state, restore_on, restore_off, restore_shown, restore_link, restore_size, restore_text, restore_setting, restore_entry, restore_states}
use Rattle.command_laws.proofs.Fits.{Fit, fits, fit_answer, fit_perform}
use Rattle.command_laws.proofs.LinkingRuns.{fit_create_link}
use Rattle.command_laws.proofs.TogglingRuns.{fit_toggle_style, fit_toggle_script, fit_apply_value}

fit_override : (c : Command) (setting : Setting) → Fit (override_by c setting)
fit_override c Absent = fit_answer tt
fit_override c On = fit_perform (Override c On) tt tt
fit_override c Off = fit_perform (Override c Off) tt tt
fit_override c (Text v) = fit_perform (Override c (Text v)) tt tt

fit_set_override : (o : overrides.Override) → Fit (set_override o)
unfolding set_override
fit_set_override o = fit_override o.command o.setting

fit_turn : (c : Command) → Fit (turn_round c)
fit_turn command.Bold = fit_toggle_style command.Bold
fit_turn command.Italic = fit_toggle_style command.Italic
fit_turn command.Underline = fit_toggle_style command.Underline
fit_turn command.Strikethrough = fit_toggle_style command.Strikethrough
fit_turn command.Subscript = fit_toggle_script command.Subscript
fit_turn command.Superscript = fit_toggle_script command.Superscript
fit_turn command.CreateLink = fit_toggle_style command.CreateLink
fit_turn command.Unlink = fit_toggle_style command.Unlink
fit_turn command.FontName = fit_toggle_style command.FontName
fit_turn command.FontSize = fit_toggle_style command.FontSize
fit_turn command.ForeColor = fit_toggle_style command.ForeColor
fit_turn command.BackColor = fit_toggle_style command.BackColor
fit_turn command.HiliteColor = fit_toggle_style command.HiliteColor
fit_turn command.RemoveFormat = fit_toggle_style command.RemoveFormat
fit_turn command.FormatBlock = fit_toggle_style command.FormatBlock
fit_turn command.JustifyLeft = fit_toggle_style command.JustifyLeft
fit_turn command.JustifyCenter = fit_toggle_style command.JustifyCenter
fit_turn command.JustifyRight = fit_toggle_style command.JustifyRight
fit_turn command.JustifyFull = fit_toggle_style command.JustifyFull
fit_turn command.Indent = fit_toggle_style command.Indent
fit_turn command.Outdent = fit_toggle_style command.Outdent
fit_turn command.Delete = fit_toggle_style command.Delete
fit_turn command.InsertText = fit_toggle_style command.InsertText
fit_turn command.InsertParagraph = fit_toggle_style command.InsertParagraph
fit_turn command.StyleWithCss = fit_toggle_style command.StyleWithCss
fit_turn command.UseCss = fit_toggle_style command.UseCss
fit_turn command.DefaultParagraphSeparator = fit_toggle_style command.DefaultParagraphSeparator
fit_turn command.InsertOrderedList = fit_toggle_style command.InsertOrderedList
fit_turn command.InsertUnorderedList = fit_toggle_style command.InsertUnorderedList
fit_turn command.InsertLineBreak = fit_toggle_style command.InsertLineBreak
fit_turn command.InsertHorizontalRule = fit_toggle_style command.InsertHorizontalRule
fit_turn command.InsertImage = fit_toggle_style command.InsertImage

fit_turned : (c : Command) → Fit (toggle_state c)
unfolding toggle_state
fit_turned c = search (fits, fit_turn)

fit_on : (c : Command) → Fit (restore_on c)
unfolding restore_on
fit_on c = search (fits, fit_turned)

fit_off : (c : Command) → Fit (restore_off c)
unfolding restore_off
fit_off c = search (fits, fit_turned)

fit_shown : (c : Command) (v : List ℕ) → Fit (restore_shown c v)
unfolding restore_shown
fit_shown c v = search (fits, fit_apply_value)

fit_link : (v : List ℕ) → Fit (restore_link v)
unfolding restore_link
fit_link v = search (fits, fit_create_link)

fit_size : (v : List ℕ) → Fit (restore_size v)
unfolding restore_size
fit_size v = search (fits, fit_apply_value)

fit_text : (c : Command) (v : List ℕ) → Fit (restore_text c v)
fit_text command.Bold v = fit_answer tt
fit_text command.Italic v = fit_answer tt
fit_text command.Underline v = fit_answer tt
fit_text command.Strikethrough v = fit_answer tt
fit_text command.Subscript v = fit_answer tt
fit_text command.Superscript v = fit_answer tt
fit_text command.CreateLink v = fit_link v
fit_text command.Unlink v = fit_answer tt
fit_text command.FontName v = fit_shown command.FontName v
fit_text command.FontSize v = fit_size v
fit_text command.ForeColor v = fit_shown command.ForeColor v
fit_text command.BackColor v = fit_answer tt
fit_text command.HiliteColor v = fit_shown command.HiliteColor v
fit_text command.RemoveFormat v = fit_answer tt
fit_text command.FormatBlock v = fit_answer tt
fit_text command.JustifyLeft v = fit_answer tt
fit_text command.JustifyCenter v = fit_answer tt
fit_text command.JustifyRight v = fit_answer tt
fit_text command.JustifyFull v = fit_answer tt
fit_text command.Indent v = fit_answer tt
fit_text command.Outdent v = fit_answer tt
fit_text command.Delete v = fit_answer tt
fit_text command.InsertText v = fit_answer tt
fit_text command.InsertParagraph v = fit_answer tt
fit_text command.StyleWithCss v = fit_answer tt
fit_text command.UseCss v = fit_answer tt
fit_text command.DefaultParagraphSeparator v = fit_answer tt
fit_text command.InsertOrderedList v = fit_answer tt
fit_text command.InsertUnorderedList v = fit_answer tt
fit_text command.InsertLineBreak v = fit_answer tt
fit_text command.InsertHorizontalRule v = fit_answer tt
fit_text command.InsertImage v = fit_answer tt

fit_setting : (c : Command) (setting : Setting) → Fit (restore_setting c setting)
fit_setting c On = fit_on c
fit_setting c Off = fit_off c
fit_setting c (Text v) = fit_text c v
fit_setting c Absent = fit_answer tt

fit_entry : (o : overrides.Override) → Fit (restore_entry o)
unfolding restore_entry
fit_entry o = fit_setting o.command o.setting

pub fit_restore_states : (list : List overrides.Override) → Fit (restore_states list)
unfolding restore_states
fit_restore_states list = search (fits, fit_set_override, fit_entry)

-- ---- each certificate by itself

pub order_preserving_restore_states : (list : List overrides.Override) → OrderPreserving (restore_states list)
order_preserving_restore_states list = (fit_restore_states list).order

pub steady_restore_states : (list : List overrides.Override) → Steady (restore_states list)
steady_restore_states list = (fit_restore_states list).states
