-- The certificates of the actions of commands that leave the selection in the host, a line for each command.
use Rattle.std.proofs.Common.{ℕ, Bool, true, false, List}
use Rattle.std.specs.Prelude.{not, codes, if◌then◌else◌}
use Rattle.edit_model.specs.DomModel.declared.Content.{Content}
use Rattle.edit_model.specs.DomModel.Forest.{Forest}
use Rattle.edit_model.specs.HtmlNames.declared.commands.Command.{Command}
use Rattle.edit_model.specs.HtmlNames.declared.commands.Command.TheVariants as command
use Rattle.edit_model.specs.Action.{Flag}
use Rattle.edit_model.specs.Run.{Run, ◌>>=◌, answer, done, set_flags}
use Rattle.edit_model.specs.declared.settings.Flags.{Flags}
use Rattle.edit_laws.specs.InHost.{StaysInHost}
use Rattle.edit_laws.proofs.HostRuns.{Stays, stays_answer, stays_bind, stays_look_at, stays_if, stays_given, stays_perform, stays_calm, in_host}
use Rattle.selection_laws.proofs.CalmBlocks.{calm_format_block, calm_justify}
use Rattle.selection_laws.proofs.CalmFormats.{calm_unlink}
use Rattle.selection_laws.proofs.CalmIndents.{calm_indent, calm_outdent}
use Rattle.selection_laws.proofs.StayingBack.{stays_delete}
use Rattle.selection_laws.proofs.StayingLines.{stays_insert_paragraph, stays_insert_text}
use Rattle.selection_laws.proofs.StayingLists.{stays_toggle_lists}
use Rattle.selection_laws.proofs.StayingObjects.{stays_insert_line_break, stays_insert_horizontal_rule, stays_insert_image}
use Rattle.selection_laws.proofs.StayingValues.{stays_toggle_style, stays_toggle_script, stays_create_link, stays_remove_format, stays_apply_value, stays_restore_states}
use Rattle.block_commands.specs.FormatBlock.{format_block}
use Rattle.block_commands.specs.Justify.{justify}
use Rattle.inline_commands.specs.RestoringStates.{restore_states}
use Rattle.inline_commands.specs.Unlink.{unlink}
use Rattle.inline_value.specs.Overrides.{overrides_of}
use Rattle.inline_value.specs.declared.overrides.Override.{Override}
use Rattle.list_indent.specs.Commands.{indent, outdent}
use Rattle.list_toggle.specs.declared.toggling.ListKind.TheVariants.{Ordered, Unordered}
use Rattle.inline_value.specs.EditQuery.Carets.{is_caret}
use Rattle.edit_engine.specs.Framing.{restore_at_caret, give_back, recorded_action, framed}
use Rattle.edit_engine.specs.Commands.{row_of, own_action, action_of, is_value, flags_taken, set_css_styling, separator_set, set_separator}

-- the caret of delete comes from the scratch pair, and that of the commands on lists may stand outside
abbrev pub kept_by : Command → Bool
kept_by command.Delete = true
kept_by _ = false

module _ (outer : Forest Content) (h : ℕ) where
  flags_stay : (flags : Flags) → Stays outer h false (flags_taken flags)
  flags_stay flags = stays_bind outer h false (set_flags flags) (λ _. answer true) (stays_perform outer h false (Flag flags) tt) (λ _. stays_answer outer h false true)

  styling_stays : (on : Bool) → Stays outer h false (set_css_styling on)
  unfolding set_css_styling
  styling_stays on = stays_look_at outer h false _ (λ s. flags_stay (record s.flags { css_styling = on }))

  separator_stays : (value : List ℕ) → Stays outer h false (set_separator value)
  unfolding set_separator
  separator_stays value =
      stays_look_at outer h false _ (λ s. stays_given outer h false (separator_set s.flags value) (answer false) flags_taken (stays_answer outer h false false) flags_stay)

  own_stays : (c : Command) (value : List ℕ) → Stays outer h (kept_by c) (own_action c value)
  own_stays command.Bold value = stays_toggle_style outer h false command.Bold
  own_stays command.Italic value = stays_toggle_style outer h false command.Italic
  own_stays command.Underline value = stays_toggle_style outer h false command.Underline
  own_stays command.Strikethrough value = stays_toggle_style outer h false command.Strikethrough
  own_stays command.Subscript value = stays_toggle_script outer h false command.Subscript
  own_stays command.Superscript value = stays_toggle_script outer h false command.Superscript
  own_stays command.CreateLink value = stays_create_link outer h false value
  own_stays command.Unlink value = stays_calm outer h false unlink calm_unlink
  own_stays command.FontName value = stays_apply_value outer h false command.FontName value
  own_stays command.FontSize value = stays_apply_value outer h false command.FontSize value
  own_stays command.ForeColor value = stays_apply_value outer h false command.ForeColor value
  own_stays command.BackColor value = stays_apply_value outer h false command.BackColor value
  own_stays command.HiliteColor value = stays_apply_value outer h false command.HiliteColor value
  own_stays command.RemoveFormat value = stays_remove_format outer h false
  own_stays command.FormatBlock value = stays_calm outer h false (format_block value) (calm_format_block value)
  own_stays command.JustifyLeft value = stays_calm outer h false (justify (codes "left")) (calm_justify (codes "left"))
  own_stays command.JustifyCenter value = stays_calm outer h false (justify (codes "center")) (calm_justify (codes "center"))
  own_stays command.JustifyRight value = stays_calm outer h false (justify (codes "right")) (calm_justify (codes "right"))
  own_stays command.JustifyFull value = stays_calm outer h false (justify (codes "justify")) (calm_justify (codes "justify"))
  own_stays command.Indent value = stays_calm outer h false indent calm_indent
  own_stays command.Outdent value = stays_calm outer h false outdent calm_outdent
  own_stays command.Delete value = stays_delete outer h
  own_stays command.InsertText value = stays_insert_text outer h false value
  own_stays command.InsertParagraph value = stays_insert_paragraph outer h false
  own_stays command.StyleWithCss value = styling_stays (not (is_value value (codes "false")))
  own_stays command.UseCss value = styling_stays (is_value value (codes "false"))
  own_stays command.DefaultParagraphSeparator value = separator_stays value
  own_stays command.InsertOrderedList value = stays_toggle_lists outer h Ordered
  own_stays command.InsertUnorderedList value = stays_toggle_lists outer h Unordered
  own_stays command.InsertLineBreak value = stays_insert_line_break outer h false
  own_stays command.InsertHorizontalRule value = stays_insert_horizontal_rule outer h false
  own_stays command.InsertImage value = stays_insert_image outer h false value

  -- ---- with the overrides recorded and restored

  back_stays : (kept : Bool) (list : List Override) (b : Bool) → Stays outer h kept (give_back list b)
  unfolding restore_at_caret
  back_stays kept list true =
      stays_bind outer h kept (restore_at_caret list) (λ _. answer true)
      (stays_look_at outer h kept (λ s. if is_caret s then restore_states list else done) (λ s. stays_if outer h kept (is_caret s) (restore_states list) done (stays_restore_states outer h kept list) (stays_answer outer h kept tt)))
      (λ _. stays_answer outer h kept true)
  back_stays kept list false = stays_answer outer h kept false

  framed_stays : (kept recording : Bool) (m : Run Bool) → Stays outer h kept m → Stays outer h kept (framed recording m)
  unfolding recorded_action
  framed_stays kept true m stays = stays_look_at outer h kept (λ s. m >>= give_back (overrides_of s)) (λ s. stays_bind outer h kept m (give_back (overrides_of s)) stays (back_stays kept (overrides_of s)))
  framed_stays kept false m stays = stays

pub stays_action : (c : Command) (value : List ℕ) → StaysInHost (kept_by c) (action_of c value)
stays_action c value = in_host (kept_by c) (action_of c value) (λ outer h. framed_stays outer h (kept_by c) (row_of c).recording (own_action c value) (own_stays outer h c value))
