-- The action of each command is tame from the document before it and what it types, a line for each command.
use Rattle.std.proofs.Common.{ℕ, Bool, true, false, List, Option, Some, None, inr}
use Rattle.std.specs.Prelude.{not, codes, if◌then◌else◌}
use Rattle.edit_model.specs.HtmlNames.declared.commands.Command.{Command}
use Rattle.edit_model.specs.HtmlNames.declared.commands.Command.TheVariants as command
use Rattle.edit_model.specs.LiveRange.declared.places.Pair.{Pair}
use Rattle.edit_model.specs.Action.{Flag, Select}
use Rattle.edit_model.specs.Run.{Run, ◌>>=◌, answer, done, given, select, set_flags}
use Rattle.edit_model.specs.declared.settings.Flags.{Flags}
use Rattle.inline_value.specs.ForestChanges.Named.{Each}
use Rattle.edit_model.specs.State.{State}
use Rattle.making_laws.specs.Known.{Source, source_of, IsKnownCharacter}
use Rattle.making_laws.specs.Tame.{Tame, TameFrom}
use Rattle.making_laws.proofs.Attributes.{each_contained}
use Rattle.making_laws.proofs.TameRuns.{from_any, from_bind, from_look, from_perform, tame_answer, tame_bind, tame_look, tame_if, tame_given, tame_perform}
use Rattle.making_laws.proofs.BlockRuns.{tame_format_block, tame_justify}
use Rattle.making_laws.proofs.DeleteRuns.{tame_delete}
use Rattle.making_laws.proofs.FormatRuns.{tame_remove_format}
use Rattle.making_laws.proofs.IndentRuns.{tame_indent, tame_outdent}
use Rattle.making_laws.proofs.LinkingRuns.{tame_create_link, tame_unlink}
use Rattle.making_laws.proofs.ListToggleRuns.{tame_toggle_lists}
use Rattle.list_toggle.specs.declared.toggling.ListKind.TheVariants.{Ordered, Unordered}
use Rattle.making_laws.proofs.ObjectRuns.{tame_insert_line_break, tame_insert_horizontal_rule, tame_insert_image}
use Rattle.making_laws.proofs.RestoringRuns.{tame_restore_states}
use Rattle.making_laws.proofs.TogglingRuns.{tame_toggle_style, tame_toggle_script, tame_apply_value}
use Rattle.making_laws.proofs.TypingRuns.{from_insert_text, tame_insert_paragraph}
use Rattle.inline_value.specs.Overrides.{overrides_of}
use Rattle.inline_value.specs.declared.overrides.Override.{Override}
use Rattle.inline_commands.specs.RestoringStates.{restore_states}
use Rattle.inline_value.specs.EditQuery.Carets.{is_caret}
use Rattle.edit_engine.specs.Bringing.{typed_by}
use Rattle.edit_engine.specs.Framing.{restore_at_caret, give_back, recorded_action, framed}
use Rattle.edit_engine.specs.Execution.{run_at}
use Rattle.edit_engine.specs.Commands.{row_of, own_action, action_of, is_value, flags_taken, set_css_styling, separator_set, set_separator}

-- ---- the commands on flags

tame_flags : (flags : Flags) → Tame (flags_taken flags)
tame_flags flags = tame_bind (set_flags flags) (λ _. answer true) (tame_perform (Flag flags) tt) (λ _. tame_answer true)

tame_styling : (on : Bool) → Tame (set_css_styling on)
unfolding set_css_styling
tame_styling on = tame_look (λ s. flags_taken (record s.flags { css_styling = on })) (λ s. tame_flags (record s.flags { css_styling = on }))

tame_separator : (value : List ℕ) → Tame (set_separator value)
unfolding set_separator
tame_separator value =
    tame_look (λ s. given (separator_set s.flags value) (answer false) flags_taken)
    (λ s. tame_given (separator_set s.flags value) (answer false) flags_taken (tame_answer false) tame_flags)

-- ---- all commands

-- the value is known by itself
value_known : (s : State) (value : List ℕ) → Each (IsKnownCharacter (source_of s value)) value
value_known s value = each_contained (IsKnownCharacter (source_of s value)) value (λ c there. inr (inr there))

own_tame : (s : State) (c : Command) (value : List ℕ) → TameFrom (source_of s (typed_by (Some c) value)) (own_action c value)
own_tame s command.Bold value = from_any _ _ (tame_toggle_style command.Bold)
own_tame s command.Italic value = from_any _ _ (tame_toggle_style command.Italic)
own_tame s command.Underline value = from_any _ _ (tame_toggle_style command.Underline)
own_tame s command.Strikethrough value = from_any _ _ (tame_toggle_style command.Strikethrough)
own_tame s command.Subscript value = from_any _ _ (tame_toggle_script command.Subscript)
own_tame s command.Superscript value = from_any _ _ (tame_toggle_script command.Superscript)
own_tame s command.CreateLink value = from_any _ _ (tame_create_link value)
own_tame s command.Unlink value = from_any _ _ tame_unlink
own_tame s command.FontName value = from_any _ _ (tame_apply_value command.FontName value)
own_tame s command.FontSize value = from_any _ _ (tame_apply_value command.FontSize value)
own_tame s command.ForeColor value = from_any _ _ (tame_apply_value command.ForeColor value)
own_tame s command.BackColor value = from_any _ _ (tame_apply_value command.BackColor value)
own_tame s command.HiliteColor value = from_any _ _ (tame_apply_value command.HiliteColor value)
own_tame s command.RemoveFormat value = from_any _ _ tame_remove_format
own_tame s command.FormatBlock value = from_any _ _ (tame_format_block value)
own_tame s command.JustifyLeft value = from_any _ _ (tame_justify (codes "left"))
own_tame s command.JustifyCenter value = from_any _ _ (tame_justify (codes "center"))
own_tame s command.JustifyRight value = from_any _ _ (tame_justify (codes "right"))
own_tame s command.JustifyFull value = from_any _ _ (tame_justify (codes "justify"))
own_tame s command.Indent value = from_any _ _ tame_indent
own_tame s command.Outdent value = from_any _ _ tame_outdent
own_tame s command.Delete value = from_any _ _ tame_delete
own_tame s command.InsertText value = from_insert_text (source_of s value) value (value_known s value)
own_tame s command.InsertParagraph value = from_any _ _ tame_insert_paragraph
own_tame s command.StyleWithCss value = from_any _ _ (tame_styling (not (is_value value (codes "false"))))
own_tame s command.UseCss value = from_any _ _ (tame_styling (is_value value (codes "false")))
own_tame s command.DefaultParagraphSeparator value = from_any _ _ (tame_separator value)
own_tame s command.InsertOrderedList value = from_any _ _ (tame_toggle_lists Ordered)
own_tame s command.InsertUnorderedList value = from_any _ _ (tame_toggle_lists Unordered)
own_tame s command.InsertLineBreak value = from_any _ _ tame_insert_line_break
own_tame s command.InsertHorizontalRule value = from_any _ _ tame_insert_horizontal_rule
own_tame s command.InsertImage value = from_any _ _ (tame_insert_image value)

-- ---- with the overrides recorded and restored

tame_back : (list : List Override) (b : Bool) → Tame (give_back list b)
unfolding restore_at_caret
tame_back list true =
    tame_bind (restore_at_caret list) (λ _. answer true)
    (tame_look (λ s. if is_caret s then restore_states list else done) (λ s. tame_if (is_caret s) (restore_states list) done (tame_restore_states list) (tame_answer tt)))
    (λ _. tame_answer true)
tame_back list false = tame_answer false

module _ (source : Source) where
  framed_tame : (recording : Bool) (m : Run Bool) → TameFrom source m → TameFrom source (framed recording m)
  unfolding recorded_action
  framed_tame true m h =
      from_look source (λ s. m >>= give_back (overrides_of s))
      (λ s. from_bind source m (give_back (overrides_of s)) h (λ b. from_any source (give_back (overrides_of s) b) (tame_back (overrides_of s) b)))
  framed_tame false m h = h

tame_action : (s : State) (c : Command) (value : List ℕ) → TameFrom (source_of s (typed_by (Some c) value)) (action_of c value)
tame_action s c value = framed_tame (source_of s (typed_by (Some c) value)) (row_of c).recording (own_action c value) (own_tame s c value)

-- and on a range, which is selected first
pub tame_at : (s : State) (at : Option Pair) (c : Command) (value : List ℕ) → TameFrom (source_of s (typed_by (Some c) value)) (run_at at (action_of c value))
tame_at s None c value = tame_action s c value
tame_at s (Some range) c value =
    let source = source_of s (typed_by (Some c) value) in
    from_bind source (select range.anchor range.focus) (λ _. action_of c value) (from_perform source (Select range.anchor range.focus) tt) (λ _. tame_action s c value)
