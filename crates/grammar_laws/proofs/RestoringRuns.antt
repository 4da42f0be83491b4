-- Restoring states and values keeps to the grammar.
use Rattle.std.proofs.Common.{ℕ, List}
use Rattle.edit_model.specs.HtmlNames.declared.commands.Command.{Command}
use Rattle.edit_model.specs.Action.{Override}
use Rattle.edit_model.specs.declared.settings.Setting.{Setting}
use Rattle.edit_model.specs.declared.settings.Setting.TheVariants.{On, Off, Text, Absent}
use Rattle.inline_commands.specs.RestoringStates.{override_by, set_override, turn_round, toggle_state, restore_on, restore_off, restore_shown, restore_link, is_other_value, restore_size, restore_text, restore_setting, restore_entry, restore_states}
use Rattle.edit_model.specs.Run.{◌>>◌, done, for_each}
use Rattle.inline_commands.specs.ValueCommands.{apply_value}
use Rattle.inline_value.specs.EditQuery.Rows.{legacy_text}
use Rattle.inline_value.specs.ForestChanges.Named.{Each}
use Rattle.grammar_laws.specs.Proper.{IsText, IsProperSetting}
use Rattle.grammar_laws.specs.Runs.{Proper}
use Rattle.grammar_laws.proofs.Values.{IsOverride, legacy_there}
use Rattle.grammar_laws.proofs.ProperRuns.{proper_act, proper_answer, proper_bind, proper_each_such, proper_if, proper_look, proper_parts}
use Rattle.grammar_laws.proofs.TogglingRuns.{proper_apply_value, proper_toggle_script, proper_toggle_style}
use Rattle.grammar_laws.proofs.LinkingRuns.{proper_create_link}
use Rattle.edit_model.specs.HtmlNames.declared.commands.Command.TheVariants as command
use Rattle.inline_value.specs.declared.overrides.Override as overrides

proper_override : (c : Command) (setting : Setting) → IsProperSetting setting → Proper (override_by c setting)
proper_override c Absent own = proper_answer tt
proper_override c On own = proper_act (Override c On) tt
proper_override c Off own = proper_act (Override c Off) tt
proper_override c (Text v) own = proper_act (Override c (Text v)) own

proper_set_override : (o : overrides.Override) → IsOverride o → Proper (set_override o)
unfolding set_override
proper_set_override o own = proper_override o.command o.setting own

proper_turn : (c : Command) → Proper (turn_round c)
proper_turn command.Bold = proper_toggle_style command.Bold
proper_turn command.Italic = proper_toggle_style command.Italic
proper_turn command.Underline = proper_toggle_style command.Underline
proper_turn command.Strikethrough = proper_toggle_style command.Strikethrough
proper_turn command.Subscript = proper_toggle_script command.Subscript
proper_turn command.Superscript = proper_toggle_script command.Superscript
proper_turn command.CreateLink = proper_toggle_style command.CreateLink
proper_turn command.Unlink = proper_toggle_style command.Unlink
proper_turn command.FontName = proper_toggle_style command.FontName
proper_turn command.FontSize = proper_toggle_style command.FontSize
proper_turn command.ForeColor = proper_toggle_style command.ForeColor
proper_turn command.BackColor = proper_toggle_style command.BackColor
proper_turn command.HiliteColor = proper_toggle_style command.HiliteColor
proper_turn command.RemoveFormat = proper_toggle_style command.RemoveFormat
proper_turn command.FormatBlock = proper_toggle_style command.FormatBlock
proper_turn command.JustifyLeft = proper_toggle_style command.JustifyLeft
proper_turn command.JustifyCenter = proper_toggle_style command.JustifyCenter
proper_turn command.JustifyRight = proper_toggle_style command.JustifyRight
proper_turn command.JustifyFull = proper_toggle_style command.JustifyFull
proper_turn command.Indent = proper_toggle_style command.Indent
proper_turn command.Outdent = proper_toggle_style command.Outdent
proper_turn command.Delete = proper_toggle_style command.Delete
proper_turn command.InsertText = proper_toggle_style command.InsertText
proper_turn command.InsertParagraph = proper_toggle_style command.InsertParagraph
proper_turn command.StyleWithCss = proper_toggle_style command.StyleWithCss
proper_turn command.UseCss = proper_toggle_style command.UseCss
proper_turn command.DefaultParagraphSeparator = proper_toggle_style command.DefaultParagraphSeparator
proper_turn command.InsertOrderedList = proper_toggle_style command.InsertOrderedList
proper_turn command.InsertUnorderedList = proper_toggle_style command.InsertUnorderedList
proper_turn command.InsertLineBreak = proper_toggle_style command.InsertLineBreak
proper_turn command.InsertHorizontalRule = proper_toggle_style command.InsertHorizontalRule
proper_turn command.InsertImage = proper_toggle_style command.InsertImage

proper_turned : (c : Command) → Proper (toggle_state c)
unfolding toggle_state
proper_turned c = search (proper_parts, proper_turn)

proper_on : (c : Command) → Proper (restore_on c)
unfolding restore_on
proper_on c = search (proper_parts, proper_turned)

proper_off : (c : Command) → Proper (restore_off c)
unfolding restore_off
proper_off c = search (proper_parts, proper_turned)

proper_shown : (c : Command) (v : List ℕ) → IsText v → Proper (restore_shown c v)
unfolding restore_shown
proper_shown c v own = search (proper_parts, proper_apply_value)

proper_link : (v : List ℕ) → IsText v → Proper (restore_link v)
unfolding restore_link
proper_link v own = search (proper_parts, proper_create_link)

proper_size : (v : List ℕ) → Proper (restore_size v)
unfolding restore_size
proper_size v =
    proper_look _ (λ s p. proper_if (is_other_value s command.FontSize v) (apply_value command.FontSize (legacy_text v) >> done) done
    (proper_bind (apply_value command.FontSize (legacy_text v)) (λ _. done) (proper_apply_value command.FontSize (legacy_text v) (legacy_there v)) (λ _. proper_answer tt)) (proper_answer tt))

proper_text : (c : Command) (v : List ℕ) → IsText v → Proper (restore_text c v)
proper_text command.Bold v own = proper_answer tt
proper_text command.Italic v own = proper_answer tt
proper_text command.Underline v own = proper_answer tt
proper_text command.Strikethrough v own = proper_answer tt
proper_text command.Subscript v own = proper_answer tt
proper_text command.Superscript v own = proper_answer tt
proper_text command.CreateLink v own = proper_link v own
proper_text command.Unlink v own = proper_answer tt
proper_text command.FontName v own = proper_shown command.FontName v own
proper_text command.FontSize v own = proper_size v
proper_text command.ForeColor v own = proper_shown command.ForeColor v own
proper_text command.BackColor v own = proper_answer tt
proper_text command.HiliteColor v own = proper_shown command.HiliteColor v own
proper_text command.RemoveFormat v own = proper_answer tt
proper_text command.FormatBlock v own = proper_answer tt
proper_text command.JustifyLeft v own = proper_answer tt
proper_text command.JustifyCenter v own = proper_answer tt
proper_text command.JustifyRight v own = proper_answer tt
proper_text command.JustifyFull v own = proper_answer tt
proper_text command.Indent v own = proper_answer tt
proper_text command.Outdent v own = proper_answer tt
proper_text command.Delete v own = proper_answer tt
proper_text command.InsertText v own = proper_answer tt
proper_text command.InsertParagraph v own = proper_answer tt
proper_text command.StyleWithCss v own = proper_answer tt
proper_text command.UseCss v own = proper_answer tt
proper_text command.DefaultParagraphSeparator v own = proper_answer tt
proper_text command.InsertOrderedList v own = proper_answer tt
proper_text command.InsertUnorderedList v own = proper_answer tt
proper_text command.InsertLineBreak v own = proper_answer tt
proper_text command.InsertHorizontalRule v own = proper_answer tt
proper_text command.InsertImage v own = proper_answer tt

proper_setting : (c : Command) (setting : Setting) → IsProperSetting setting → Proper (restore_setting c setting)
proper_setting c On own = proper_on c
proper_setting c Off own = proper_off c
proper_setting c (Text v) own = proper_text c v own
proper_setting c Absent own = proper_answer tt

proper_entry : (o : overrides.Override) → IsOverride o → Proper (restore_entry o)
unfolding restore_entry
proper_entry o own = proper_setting o.command o.setting own

pub proper_restore_states : (list : List overrides.Override) → Each IsOverride list → Proper (restore_states list)
unfolding restore_states
proper_restore_states list own =
    proper_look _ (λ s p. proper_if _ (for_each list set_override) (for_each list restore_entry) (proper_each_such IsOverride list set_override own proper_set_override) (proper_each_such IsOverride list restore_entry own proper_entry))
