-- The run of each command keeps to the grammar, where its value is a text of scalar values: a line for each command.
use Rattle.std.proofs.Common.{ℕ, Bool, true, false, List, refl}
use Rattle.std.specs.Prelude.{not, codes, if◌then◌else◌}
use Rattle.edit_model.specs.HtmlNames.declared.commands.Command.{Command}
use Rattle.edit_model.specs.HtmlNames.declared.commands.Command.TheVariants as command
use Rattle.list_toggle.specs.declared.toggling.ListKind.TheVariants.{Ordered, Unordered}
use Rattle.edit_model.specs.Action.{Flag}
use Rattle.edit_model.specs.Run.{Run, ◌>>=◌, answer, done, given, set_flags}
use Rattle.edit_model.specs.declared.settings.Flags.{Flags}
use Rattle.inline_value.specs.EditQuery.Carets.{is_caret}
use Rattle.inline_value.specs.ForestChanges.Named.{Each}
use Rattle.inline_commands.specs.RestoringStates.{restore_states}
use Rattle.inline_value.specs.Overrides.{overrides_of}
use Rattle.inline_value.specs.declared.overrides.Override.{Override}
use Rattle.edit_engine.specs.Commands.{row_of, own_action, action_of, is_value, flags_taken, set_css_styling, separator_set, set_separator}
use Rattle.edit_engine.specs.Framing.{restore_at_caret, give_back, recorded_action, framed}
use Rattle.grammar_laws.specs.Proper.{IsText}
use Rattle.grammar_laws.specs.Runs.{Proper}
use Rattle.grammar_laws.proofs.BlockRuns.{proper_format_block, proper_justify}
use Rattle.grammar_laws.proofs.DeleteRuns.{proper_delete}
use Rattle.grammar_laws.proofs.FormatRuns.{proper_remove_format}
use Rattle.grammar_laws.proofs.IndentRuns.{proper_indent, proper_outdent}
use Rattle.grammar_laws.proofs.LinkingRuns.{proper_create_link, proper_unlink}
use Rattle.grammar_laws.proofs.ListToggleRuns.{proper_toggle_lists}
use Rattle.grammar_laws.proofs.ObjectRuns.{proper_insert_line_break, proper_insert_horizontal_rule, proper_insert_image}
use Rattle.grammar_laws.proofs.ProperRuns.{proper_answer, proper_bind, proper_given, proper_if, proper_look, proper_perform}
use Rattle.grammar_laws.proofs.RestoringRuns.{proper_restore_states}
use Rattle.grammar_laws.proofs.TogglingRuns.{proper_toggle_style, proper_toggle_script, proper_apply_value}
use Rattle.grammar_laws.proofs.TypingRuns.{proper_insert_text, proper_insert_paragraph}
use Rattle.grammar_laws.proofs.Values.{IsOverride, overrides_proper}

-- ---- the commands on flags

proper_flags : (flags : Flags) → Proper (flags_taken flags)
proper_flags flags = proper_bind (set_flags flags) (λ _. answer true) (proper_perform (Flag flags) tt) (λ _. proper_answer true)

proper_styling : (on : Bool) → Proper (set_css_styling on)
unfolding set_css_styling
proper_styling on = proper_look (λ s. flags_taken (record s.flags { css_styling = on })) (λ s p. proper_flags (record s.flags { css_styling = on }))

proper_separator : (value : List ℕ) → Proper (set_separator value)
unfolding set_separator
proper_separator value =
    proper_look (λ s. given (separator_set s.flags value) (answer false) flags_taken)
    (λ s p. proper_given (separator_set s.flags value) (answer false) flags_taken (proper_answer false) proper_flags)

-- ---- all commands

own_proper : (c : Command) (value : List ℕ) → IsText value → Proper (own_action c value)
own_proper command.Bold value own = proper_toggle_style command.Bold
own_proper command.Italic value own = proper_toggle_style command.Italic
own_proper command.Underline value own = proper_toggle_style command.Underline
own_proper command.Strikethrough value own = proper_toggle_style command.Strikethrough
own_proper command.Subscript value own = proper_toggle_script command.Subscript
own_proper command.Superscript value own = proper_toggle_script command.Superscript
own_proper command.CreateLink value own = proper_create_link value own
own_proper command.Unlink value own = proper_unlink
own_proper command.FontName value own = proper_apply_value command.FontName value own
own_proper command.FontSize value own = proper_apply_value command.FontSize value own
own_proper command.ForeColor value own = proper_apply_value command.ForeColor value own
own_proper command.BackColor value own = proper_apply_value command.BackColor value own
own_proper command.HiliteColor value own = proper_apply_value command.HiliteColor value own
own_proper command.RemoveFormat value own = proper_remove_format
own_proper command.FormatBlock value own = proper_format_block value
own_proper command.JustifyLeft value own = proper_justify (codes "left") refl
own_proper command.JustifyCenter value own = proper_justify (codes "center") refl
own_proper command.JustifyRight value own = proper_justify (codes "right") refl
own_proper command.JustifyFull value own = proper_justify (codes "justify") refl
own_proper command.Indent value own = proper_indent
own_proper command.Outdent value own = proper_outdent
own_proper command.Delete value own = proper_delete
own_proper command.InsertText value own = proper_insert_text value own
own_proper command.InsertParagraph value own = proper_insert_paragraph
own_proper command.StyleWithCss value own = proper_styling (not (is_value value (codes "false")))
own_proper command.UseCss value own = proper_styling (is_value value (codes "false"))
own_proper command.DefaultParagraphSeparator value own = proper_separator value
own_proper command.InsertOrderedList value own = proper_toggle_lists Ordered
own_proper command.InsertUnorderedList value own = proper_toggle_lists Unordered
own_proper command.InsertLineBreak value own = proper_insert_line_break
own_proper command.InsertHorizontalRule value own = proper_insert_horizontal_rule
own_proper command.InsertImage value own = proper_insert_image value own

-- ---- with the overrides recorded and restored

proper_back : (list : List Override) (b : Bool) → Each IsOverride list → Proper (give_back list b)
unfolding restore_at_caret
proper_back list true own =
    proper_bind (restore_at_caret list) (λ _. answer true)
    (proper_look (λ s. if is_caret s then restore_states list else done) (λ s p. proper_if (is_caret s) (restore_states list) done (proper_restore_states list own) (proper_answer tt)))
    (λ _. proper_answer true)
proper_back list false own = proper_answer false

framed_proper : (recording : Bool) (m : Run Bool) → Proper m → Proper (framed recording m)
unfolding recorded_action
framed_proper true m h =
    proper_look (λ s. m >>= give_back (overrides_of s)) (λ s p. proper_bind m (give_back (overrides_of s)) h (λ b. proper_back (overrides_of s) b (overrides_proper s p)))
framed_proper false m h = h

pub action_proper : (c : Command) (value : List ℕ) → IsText value → Proper (action_of c value)
action_proper c value own = framed_proper (row_of c).recording (own_action c value) (own_proper c value own)
