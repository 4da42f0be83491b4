-- Actions that answer false leave the state.
use Rattle.std.proofs.Common.{◌≡◌, ℕ, Bool, true, false, true≢false, not, sym, ◌∙◌, List, [], ◌∷◌, Option, Some, None, refl, subst}
use Rattle.std.specs.Prelude.{codes, if◌then◌else◌}
use Rattle.edit_model.specs.HtmlNames.declared.commands.Command.{Command}
use Rattle.edit_model.specs.HtmlNames.declared.commands.Command.TheVariants as command
use Rattle.edit_model.specs.State.{State}
use Rattle.edit_model.specs.Run.{Run, final, value, ◌>>=◌, ◌>>◌, answer, look, given, set_flags}
use Rattle.edit_engine.specs.Framing.{give_back, recorded_action, framed}
use Rattle.inline_value.specs.Overrides.{overrides_of}
use Rattle.inline_value.specs.declared.overrides.Override.{Override}
use Rattle.edit_engine.specs.Commands.{row_of, own_action, flags_taken, is_value, separator_set, set_css_styling, set_separator}
use Rattle.edit_engine.specs.Refusals.{LeavesRefused, RefusalsLeave}
use Rattle.inline_value.specs.EditQuery.ListStates.{is_list_state, list_state}
use Rattle.inline_value.specs.EditQuery.Queries.{state_of}
use Rattle.edit_model.specs.HtmlNames.ElementNames as names
use Rattle.block_commands.specs.FormatBlock.{block_name, is_formatted, split_blocks, format_next, format_range, format_block}
use Rattle.block_commands.specs.Justify.{is_misaligned, clear_alignments, align_next, justify}
use Rattle.block_commands.specs.Series.{in_turns}
use Rattle.inline_value.specs.EditQuery.Gathered.{outermost}
use Rattle.list_indent.specs.Commands.{normalize_range, is_indentable, indent_nodes, indent, is_outdentable, outdent_nodes, outdent}
use Rattle.list_toggle.specs.Toggle.{is_ordered, toggle_off, toggle_on, toggle_lists}
use Rattle.list_toggle.specs.declared.toggling.ListKind.{ListKind}
use Rattle.list_toggle.specs.declared.toggling.ListKind.TheVariants.{Ordered, Unordered}
use Rattle.text_insertion.specs.Paragraph.{insert_paragraph_inside, insert_paragraph}
use Rattle.text_insertion.specs.Typing.{insert_chars, insert_text}
use Rattle.text_deletion.specs.Delete.{delete}
use Rattle.text_deletion.proofs.Taken.{delete_answers_true}
use Rattle.insert_objects.specs.LineBreak.{insert_line_break}
use Rattle.insert_objects.specs.Rule.{insert_horizontal_rule}
use Rattle.insert_objects.specs.Image.{insert_source, insert_image}
use Rattle.edit_engine.proofs.ObjectsTaken.{line_break_answers_true, rule_answers_true, image_answers_true}
use Rattle.inline_value.specs.Selections.{split_ends, set_value}
use Rattle.inline_commands.specs.Linking.{relink_range, link_range, create_link}
use Rattle.inline_commands.specs.RemovingFormat.{unwrap_candidates, part_nodes, clear_commands, remove_format}
use Rattle.inline_commands.specs.Toggling.{style_on, toggled, set_toggled, toggle_style, script_on, set_unless, set_script, toggle_script}
use Rattle.inline_commands.specs.Unlink.{clear_links, links_touched, unlink}
use Rattle.inline_commands.specs.ValueCommands.{value_taken, set_taken, take, apply_value}

leaves_true : {A : Type 0} (m : Run A) → LeavesRefused (m >> answer true)
unfolding value ◌>>=◌ answer
leaves_true m s refused = absurd (true≢false refused)

leaves_false : LeavesRefused (answer false)
unfolding final answer
leaves_false s refused = refl

leaves_look : (k : State → Run Bool) → ((t : State) → LeavesRefused (k t)) → LeavesRefused (look k)
unfolding value final look
leaves_look k h s refused = h s s refused

leaves_given : {A : Type 0} (o : Option A) (f : A → Run Bool) → ((a : A) → LeavesRefused (f a)) → LeavesRefused (given o (answer false) f)
leaves_given None f h = leaves_false
leaves_given (Some a) f h = h a

leaves_if : (b : Bool) (m : Run Bool) → LeavesRefused m → LeavesRefused (if b then m else answer false)
leaves_if true m h = h
leaves_if false m h = leaves_false

-- a run that answers true, whatever went before
abbrev AnswersTrue : Run Bool → Type 0
AnswersTrue m = (s : State) → value m s ≡ true

true_last : {A : Type 0} (m : Run A) → AnswersTrue (m >> answer true)
unfolding value ◌>>=◌ answer
true_last m s = refl

true_after : {A : Type 0} (m : Run A) (n : Run Bool) → AnswersTrue n → AnswersTrue (m >> n)
unfolding value final ◌>>=◌
true_after m n h s = h (m.run s).0

leaves_taken : (m : Run Bool) → AnswersTrue m → LeavesRefused m
leaves_taken m h s refused = absurd (true≢false (sym (h s) ∙ refused))

-- ---- one line a command

leaves_toggle : (c : Command) → LeavesRefused (toggle_style c)
unfolding toggle_style set_toggled
leaves_toggle c =
    leaves_given (style_on c) (set_toggled c)
    (λ on. leaves_look (λ s. set_value c (toggled c on (state_of s s.host c)) >> answer true) (λ t. leaves_true (set_value c (toggled c on (state_of t t.host c)))))

set_script_taken : (c : Command) (on : List ℕ) (b : Bool) → LeavesRefused (set_value c None >> (set_unless b c on >> answer true))
set_script_taken c on b =
    let m = set_unless b c on >> answer true in
    leaves_taken (set_value c None >> m) (true_after (set_value c None) m (true_last (set_unless b c on)))

leaves_script : (c : Command) → LeavesRefused (toggle_script c)
unfolding toggle_script set_script
leaves_script c =
    leaves_given (script_on c) (set_script c)
    (λ on. leaves_look (λ s. set_value c None >> (set_unless (state_of s s.host c) c on >> answer true)) (λ t. set_script_taken c on (state_of t t.host c)))

leaves_link : (v : List ℕ) → LeavesRefused (create_link v)
unfolding create_link link_range
leaves_link [] = leaves_false
leaves_link (c ∷ v) =
    let m = set_value command.CreateLink (Some (c ∷ v)) >> answer true in
    leaves_taken (relink_range (c ∷ v) >> m) (true_after (relink_range (c ∷ v)) m (true_last (set_value command.CreateLink (Some (c ∷ v)))))

leaves_unlink : LeavesRefused unlink
unfolding unlink
leaves_unlink = leaves_look (λ s. clear_links (links_touched s) >> answer true) (λ t. leaves_true (clear_links (links_touched t)))

leaves_value : (c : Command) (v : List ℕ) → LeavesRefused (apply_value c v)
unfolding apply_value take set_taken
leaves_value c v = leaves_given (value_taken c v) (set_taken c) (λ w. leaves_true (set_value c (Some w)))

leaves_format : LeavesRefused remove_format
unfolding remove_format
leaves_format =
    let clears = clear_commands >> answer true in
    let parts = part_nodes >> clears in
    let splits = split_ends >> parts in
    leaves_taken (unwrap_candidates >> splits)
    (true_after unwrap_candidates splits (true_after split_ends parts (true_after part_nodes clears (true_last clear_commands))))

-- two runs, and then true
leaves_two : (m n : Run (Unit {0})) → LeavesRefused (m >> (n >> answer true))
leaves_two m n = leaves_taken (m >> (n >> answer true)) (true_after m (n >> answer true) (true_last n))

leaves_block : (v : List ℕ) → LeavesRefused (format_block v)
unfolding format_block format_range
leaves_block v =
    let name = block_name v in
    leaves_if (names.is_formattable_block name) (format_range name)
    (leaves_look (λ s. split_blocks (outermost (is_formatted s) s) >> (in_turns (format_next name) (outermost (is_formatted s) s) >> answer true))
    (λ t. leaves_two (split_blocks (outermost (is_formatted t) t)) (in_turns (format_next name) (outermost (is_formatted t) t))))

leaves_justify : (alignment : List ℕ) → LeavesRefused (justify alignment)
unfolding justify
leaves_justify alignment =
    leaves_two clear_alignments (look λ s. in_turns (align_next alignment) (outermost (is_misaligned alignment s) s))

leaves_indent : LeavesRefused indent
unfolding indent
leaves_indent = leaves_two normalize_range (look (λ s. indent_nodes (outermost (is_indentable s) s)))

leaves_outdent : LeavesRefused outdent
unfolding outdent
leaves_outdent = leaves_two normalize_range (look (λ s. outdent_nodes (outermost (is_outdentable s) s)))

leaves_delete : LeavesRefused delete
leaves_delete = leaves_taken delete delete_answers_true

leaves_text : (v : List ℕ) → LeavesRefused (insert_text v)
unfolding insert_text
leaves_text v = leaves_two _ (insert_chars v)

leaves_paragraph : LeavesRefused insert_paragraph
unfolding insert_paragraph
leaves_paragraph = leaves_two _ insert_paragraph_inside

abbrev lists_toggled : ListKind → State → Run (Unit {0})
lists_toggled kind s = if is_list_state (is_ordered kind) (list_state s s.host) then toggle_off (is_ordered kind) else toggle_on (is_ordered kind)

leaves_lists : (kind : ListKind) → LeavesRefused (toggle_lists kind)
unfolding toggle_lists
leaves_lists kind = leaves_look (λ s. normalize_range >> (lists_toggled kind s >> answer true)) (λ s. leaves_two normalize_range (lists_toggled kind s))

leaves_line_break : LeavesRefused insert_line_break
leaves_line_break = leaves_taken insert_line_break line_break_answers_true

leaves_rule : LeavesRefused insert_horizontal_rule
leaves_rule = leaves_taken insert_horizontal_rule rule_answers_true

leaves_image : (v : List ℕ) → LeavesRefused (insert_image v)
unfolding insert_image
leaves_image [] = leaves_false
leaves_image (c ∷ v) = leaves_taken (insert_source (c ∷ v)) (image_answers_true (c ∷ v))

leaves_css_styling : (on : Bool) → LeavesRefused (set_css_styling on)
unfolding set_css_styling
leaves_css_styling on = leaves_look (λ s. flags_taken (record s.flags { css_styling = on })) (λ t. leaves_true (set_flags (record t.flags { css_styling = on })))

leaves_separator : (v : List ℕ) → LeavesRefused (set_separator v)
unfolding set_separator
leaves_separator v = leaves_look (λ s. given (separator_set s.flags v) (answer false) flags_taken) (λ t. leaves_given (separator_set t.flags v) flags_taken (λ flags. leaves_true (set_flags flags)))

-- ---- with the overrides recorded and restored

leaves_back : (list : List Override) (m : Run Bool) → LeavesRefused m → LeavesRefused (m >>= give_back list)
unfolding value final ◌>>=◌ answer
leaves_back list m h s refused = by_answer (value m s) refl
  where
    by_answer : (b : Bool) → value m s ≡ b → final (m >>= give_back list) s ≡ s
    by_answer true e = absurd (true≢false (subst (λ b. value (give_back list b) (final m s) ≡ false) e refused))
    by_answer false e = subst (λ b. final (give_back list b) (final m s) ≡ s) (sym e) (h s e)

leaves_framed : (recording : Bool) (m : Run Bool) → LeavesRefused m → LeavesRefused (framed recording m)
unfolding recorded_action
leaves_framed true m h = leaves_look (λ s. m >>= give_back (overrides_of s)) (λ s. leaves_back (overrides_of s) m h)
leaves_framed false m h = h

own_refusals : (c : Command) (v : List ℕ) → LeavesRefused (own_action c v)
own_refusals command.Bold v = leaves_toggle command.Bold
own_refusals command.Italic v = leaves_toggle command.Italic
own_refusals command.Underline v = leaves_toggle command.Underline
own_refusals command.Strikethrough v = leaves_toggle command.Strikethrough
own_refusals command.Subscript v = leaves_script command.Subscript
own_refusals command.Superscript v = leaves_script command.Superscript
own_refusals command.CreateLink v = leaves_link v
own_refusals command.Unlink v = leaves_unlink
own_refusals command.FontName v = leaves_value command.FontName v
own_refusals command.FontSize v = leaves_value command.FontSize v
own_refusals command.ForeColor v = leaves_value command.ForeColor v
own_refusals command.BackColor v = leaves_value command.BackColor v
own_refusals command.HiliteColor v = leaves_value command.HiliteColor v
own_refusals command.RemoveFormat v = leaves_format
own_refusals command.FormatBlock v = leaves_block v
own_refusals command.JustifyLeft v = leaves_justify (codes "left")
own_refusals command.JustifyCenter v = leaves_justify (codes "center")
own_refusals command.JustifyRight v = leaves_justify (codes "right")
own_refusals command.JustifyFull v = leaves_justify (codes "justify")
own_refusals command.Indent v = leaves_indent
own_refusals command.Outdent v = leaves_outdent
own_refusals command.Delete v = leaves_delete
own_refusals command.InsertLineBreak v = leaves_line_break
own_refusals command.InsertHorizontalRule v = leaves_rule
own_refusals command.InsertImage v = leaves_image v
own_refusals command.StyleWithCss v = leaves_css_styling (not (is_value v (codes "false")))
own_refusals command.UseCss v = leaves_css_styling (is_value v (codes "false"))
own_refusals command.DefaultParagraphSeparator v = leaves_separator v
own_refusals command.InsertText v = leaves_text v
own_refusals command.InsertParagraph v = leaves_paragraph
own_refusals command.InsertOrderedList v = leaves_lists Ordered
own_refusals command.InsertUnorderedList v = leaves_lists Unordered

pub refusals_leave : RefusalsLeave
refusals_leave c v = leaves_framed (row_of c).recording (own_action c v) (own_refusals c v)
