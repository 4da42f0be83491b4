-- The certificates of the actions of commands, a line for each command.
use Rattle.std.proofs.Common.{◌≡◌, ℕ, Bool, true, false, List, Option, Some, None, sym, true≢false}
use Rattle.std.specs.Prelude.{not, codes, if◌then◌else◌}
use Rattle.edit_model.specs.HtmlNames.declared.commands.Command.{Command}
use Rattle.edit_model.specs.HtmlNames.declared.commands.Command.TheVariants as command
use Rattle.edit_model.specs.LiveRange.declared.places.Pair.{Pair}
use Rattle.edit_model.specs.Action.{Flag, Select}
use Rattle.edit_model.specs.Run.{Run, ◌>>=◌, answer, done, given, select, set_flags}
use Rattle.edit_model.specs.declared.settings.Flags.{Flags}
use Rattle.edit_laws.specs.Steady.{Steady}
use Rattle.edit_laws.specs.OrderPreserving.{OrderPreserving}
use Rattle.edit_laws.proofs.SteadyRuns.{steady_answer, steady_bind, steady_look_at, steady_if, steady_given, steady_perform}
use Rattle.edit_laws.proofs.OrderPreserving.{order_preserving_answer, order_preserving_bind, order_preserving_look, order_preserving_if, order_preserving_perform}
use Rattle.command_laws.proofs.BlockRuns.{order_preserving_format_block, steady_format_block, order_preserving_justify, steady_justify}
use Rattle.command_laws.proofs.DeleteRuns.{steady_delete}
use Rattle.command_laws.proofs.FormatRuns.{order_preserving_remove_format, steady_remove_format}
use Rattle.command_laws.proofs.IndentRuns.{order_preserving_indent, steady_indent, order_preserving_outdent, steady_outdent}
use Rattle.command_laws.proofs.LinkingRuns.{order_preserving_create_link, steady_create_link, order_preserving_unlink, steady_unlink}
use Rattle.command_laws.proofs.ListToggleRuns.{order_preserving_toggle_lists, steady_toggle_lists}
use Rattle.list_toggle.specs.declared.toggling.ListKind.TheVariants.{Ordered, Unordered}
use Rattle.command_laws.proofs.ObjectRuns.{steady_insert_line_break, steady_insert_horizontal_rule, steady_insert_image}
use Rattle.command_laws.proofs.RestoringRuns.{order_preserving_restore_states, steady_restore_states}
use Rattle.command_laws.proofs.TogglingRuns.{order_preserving_toggle_style, steady_toggle_style, order_preserving_toggle_script, steady_toggle_script, order_preserving_apply_value, steady_apply_value}
use Rattle.command_laws.proofs.TypingRuns.{steady_insert_text, steady_insert_paragraph}
use Rattle.inline_value.specs.Overrides.{overrides_of}
use Rattle.inline_value.specs.declared.overrides.Override.{Override}
use Rattle.inline_commands.specs.RestoringStates.{restore_states}
use Rattle.inline_value.specs.EditQuery.Carets.{is_caret}
use Rattle.edit_engine.specs.Framing.{restore_at_caret, give_back, recorded_action, framed}
use Rattle.edit_engine.specs.Execution.{run_at}
use Rattle.edit_engine.specs.Commands.{row_of, own_action, action_of, is_value, flags_taken, set_css_styling, separator_set, set_separator}

-- a run leaves the states of contenteditable, and a keeping one keeps the order
pub record IsFit (keeping : Bool) (m : Run Bool) : Type 0 where
  pub steady : Steady m
  pub order_preserving : keeping ≡ true → OrderPreserving m

other : {m : Run Bool} → Steady m → IsFit false m
other h = record { steady = h; order_preserving = λ keeps. absurd (true≢false (sym keeps)) }

keeper : {m : Run Bool} → Steady m → OrderPreserving m → IsFit true m
keeper h t = record { steady = h; order_preserving = λ _. t }

-- ---- the commands on flags

steady_flags : (flags : Flags) → Steady (flags_taken flags)
steady_flags flags = steady_bind (set_flags flags) (λ _. answer true) (steady_perform (Flag flags) tt) (λ _. steady_answer true)

steady_styling : (on : Bool) → Steady (set_css_styling on)
unfolding set_css_styling
steady_styling on = steady_look_at (λ s. flags_taken (record s.flags { css_styling = on })) (λ s. steady_flags (record s.flags { css_styling = on }))

steady_separator : (value : List ℕ) → Steady (set_separator value)
unfolding set_separator
steady_separator value =
    steady_look_at (λ s. given (separator_set s.flags value) (answer false) flags_taken)
    (λ s. steady_given (separator_set s.flags value) (answer false) flags_taken (steady_answer false) steady_flags)

-- ---- all commands

own_fit : (c : Command) (value : List ℕ) → IsFit (row_of c).keeping (own_action c value)
own_fit command.Bold value = keeper (steady_toggle_style command.Bold) (order_preserving_toggle_style command.Bold)
own_fit command.Italic value = keeper (steady_toggle_style command.Italic) (order_preserving_toggle_style command.Italic)
own_fit command.Underline value = keeper (steady_toggle_style command.Underline) (order_preserving_toggle_style command.Underline)
own_fit command.Strikethrough value = keeper (steady_toggle_style command.Strikethrough) (order_preserving_toggle_style command.Strikethrough)
own_fit command.Subscript value = keeper (steady_toggle_script command.Subscript) (order_preserving_toggle_script command.Subscript)
own_fit command.Superscript value = keeper (steady_toggle_script command.Superscript) (order_preserving_toggle_script command.Superscript)
own_fit command.CreateLink value = keeper (steady_create_link value) (order_preserving_create_link value)
own_fit command.Unlink value = keeper steady_unlink order_preserving_unlink
own_fit command.FontName value = keeper (steady_apply_value command.FontName value) (order_preserving_apply_value command.FontName value)
own_fit command.FontSize value = keeper (steady_apply_value command.FontSize value) (order_preserving_apply_value command.FontSize value)
own_fit command.ForeColor value = keeper (steady_apply_value command.ForeColor value) (order_preserving_apply_value command.ForeColor value)
own_fit command.BackColor value = keeper (steady_apply_value command.BackColor value) (order_preserving_apply_value command.BackColor value)
own_fit command.HiliteColor value = keeper (steady_apply_value command.HiliteColor value) (order_preserving_apply_value command.HiliteColor value)
own_fit command.RemoveFormat value = keeper steady_remove_format order_preserving_remove_format
own_fit command.FormatBlock value = keeper (steady_format_block value) (order_preserving_format_block value)
own_fit command.JustifyLeft value = keeper (steady_justify (codes "left")) (order_preserving_justify (codes "left"))
own_fit command.JustifyCenter value = keeper (steady_justify (codes "center")) (order_preserving_justify (codes "center"))
own_fit command.JustifyRight value = keeper (steady_justify (codes "right")) (order_preserving_justify (codes "right"))
own_fit command.JustifyFull value = keeper (steady_justify (codes "justify")) (order_preserving_justify (codes "justify"))
own_fit command.Indent value = keeper steady_indent order_preserving_indent
own_fit command.Outdent value = keeper steady_outdent order_preserving_outdent
own_fit command.Delete value = other steady_delete
own_fit command.InsertText value = other (steady_insert_text value)
own_fit command.InsertParagraph value = other steady_insert_paragraph
own_fit command.StyleWithCss value = other (steady_styling (not (is_value value (codes "false"))))
own_fit command.UseCss value = other (steady_styling (is_value value (codes "false")))
own_fit command.DefaultParagraphSeparator value = other (steady_separator value)
own_fit command.InsertOrderedList value = keeper (steady_toggle_lists Ordered) (order_preserving_toggle_lists Ordered)
own_fit command.InsertUnorderedList value = keeper (steady_toggle_lists Unordered) (order_preserving_toggle_lists Unordered)
own_fit command.InsertLineBreak value = other steady_insert_line_break
own_fit command.InsertHorizontalRule value = other steady_insert_horizontal_rule
own_fit command.InsertImage value = other (steady_insert_image value)

-- ---- with the overrides recorded and restored

steady_back : (list : List Override) (b : Bool) → Steady (give_back list b)
unfolding restore_at_caret
steady_back list true =
    steady_bind (restore_at_caret list) (λ _. answer true)
    (steady_look_at (λ s. if is_caret s then restore_states list else done) (λ s. steady_if (is_caret s) (restore_states list) done (steady_restore_states list) (steady_answer tt)))
    (λ _. steady_answer true)
steady_back list false = steady_answer false

order_preserving_back : (list : List Override) (b : Bool) → OrderPreserving (give_back list b)
unfolding restore_at_caret
order_preserving_back list true =
    order_preserving_bind (restore_at_caret list) (λ _. answer true)
    (order_preserving_look (λ s. if is_caret s then restore_states list else done) (λ s. order_preserving_if (is_caret s) (restore_states list) done (order_preserving_restore_states list) (order_preserving_answer tt)))
    (λ _. order_preserving_answer true)
order_preserving_back list false = order_preserving_answer false

framed_fit : (keeping recording : Bool) (m : Run Bool) → IsFit keeping m → IsFit keeping (framed recording m)
unfolding recorded_action
framed_fit keeping true m h = record {
  steady = steady_look_at (λ s. m >>= give_back (overrides_of s)) (λ s. steady_bind m (give_back (overrides_of s)) h.steady (steady_back (overrides_of s)));
  order_preserving = λ keeps. order_preserving_look (λ s. m >>= give_back (overrides_of s)) (λ s. order_preserving_bind m (give_back (overrides_of s)) (h.order_preserving keeps) (order_preserving_back (overrides_of s)));
}
framed_fit keeping false m h = h

fit : (c : Command) (value : List ℕ) → IsFit (row_of c).keeping (action_of c value)
fit c value = framed_fit (row_of c).keeping (row_of c).recording (own_action c value) (own_fit c value)

-- and on a range, which is selected first
pub fit_at : (at : Option Pair) (c : Command) (value : List ℕ) → IsFit (row_of c).keeping (run_at at (action_of c value))
fit_at None c value = fit c value
fit_at (Some range) c value = record {
  steady = steady_bind (select range.anchor range.focus) (λ _. action_of c value) (steady_perform (Select range.anchor range.focus) tt) (λ _. (fit c value).steady);
  order_preserving = λ keeps. order_preserving_bind (select range.anchor range.focus) (λ _. action_of c value) (order_preserving_perform (Select range.anchor range.focus) tt) (λ _. (fit c value).order_preserving keeps);
}
