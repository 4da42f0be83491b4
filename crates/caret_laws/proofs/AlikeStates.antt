-- Restoring states and values is the same whether the command keeps contents or not, where nothing is taken out that is kept.
use Rattle.std.proofs.Common.{◌≡◌, ℕ, Bool, List, Option, true, false, [], ◌∷◌, refl}
use Rattle.std.proofs.lemmas.Bool.{and_parts}
use Rattle.edit_model.specs.HtmlNames.declared.commands.Command.{Command}
use Rattle.edit_model.specs.HtmlNames.declared.commands.Command.TheVariants as command
use Rattle.edit_model.specs.LiveRange.declared.places.Point.{Point}
use Rattle.inline_value.specs.NodeTests.CollapsedWhitespace.{is_words}
use Rattle.edit_model.specs.Confined.{is_editable_for}
use Rattle.edit_model.specs.Run.{done}
use Rattle.edit_model.specs.State.{State}
use Rattle.edit_model.specs.declared.settings.Setting.{Setting}
use Rattle.edit_model.specs.declared.settings.Setting.TheVariants.{Absent, On, Off, Text}
use Rattle.inline_value.specs.EditQuery.Queries.{state_of, value_of}
use Rattle.inline_value.specs.EditQuery.Rows.{is_on, first_value}
use Rattle.inline_value.specs.EditQuery.Formattable.{start_node, formattable_nodes, first_formattable}
use Rattle.inline_value.specs.EditQuery.Leaves.{leaves, first_leaf}
use Rattle.inline_value.specs.EditQuery.ListStates.{list_state}
use Rattle.inline_value.specs.Selections.{set_start, start_text, split_at_start, is_amid, split_at_end, split_start, split_end, split_ends, unset_rival, set_overrides, clear_one, clear_elements, elements_in_range, editable_in_range, nodes_in_range, force_phrase, give_node, give_nodes, give_range, set_value}
use Rattle.inline_value.specs.declared.overrides.Override.{Override}
use Rattle.inline_value.specs.Forcing.{has_alike}
use Rattle.inline_commands.specs.Toggling.{set_toggled, toggle_style, set_unless, set_script, toggle_script}
use Rattle.inline_commands.specs.Linking.{relink, relink_range, links_around, is_around, link_range, link_to, create_link}
use Rattle.inline_commands.specs.ValueCommands.{set_taken, take, apply_value}
use Rattle.inline_commands.specs.RestoringStates.{override_by, set_override, turn_round, toggle_state, restore_on, restore_off, restore_shown, restore_link, is_other_value, restore_size, restore_text, restore_setting, restore_entry, restore_states}
use Rattle.caret_laws.proofs.AlikeValues.{alike_clear_value, alike_force, alike_push_down}
use Rattle.caret_laws.proofs.AlikeTexts.{alike_at, alike_look_at, if_at, split_at}
use Rattle.caret_laws.proofs.SparingRuns.{Alike, alike_answer, alike_perform, alike_parts}

-- ---- the value of the selection

alike_set_start : (at : Point) → Alike (set_start at)
unfolding set_start
alike_set_start at = search alike_parts

alike_start_text : (tail : ℕ) → Alike (start_text tail)
unfolding start_text
alike_start_text tail = search (alike_parts, alike_set_start)

amid_words : (s : State) (at : Point) → is_amid s at ≡ true → is_words s.trees at.label ≡ true
unfolding is_amid
amid_words s at e = (and_parts (is_words s.trees at.label) _ e).0

alike_split_at_start : (at : Point) → Alike (split_at_start at)
unfolding split_at_start is_amid is_editable_for
alike_split_at_start at = alike_look_at _ (λ s. refl) (λ s.
    if_at s (is_amid s at) _ done (λ e. split_at at.label at.offset start_text alike_start_text s (amid_words s at e)) (alike_at s done (alike_answer tt)))

alike_split_at_end : (at : Point) → Alike (split_at_end at)
unfolding split_at_end is_amid is_editable_for
alike_split_at_end at = alike_look_at _ (λ s. refl) (λ s.
    if_at s (is_amid s at) _ done (λ e. split_at at.label at.offset (λ _. done) (λ _. alike_answer tt) s (amid_words s at e)) (alike_at s done (alike_answer tt)))

alike_split_start : Alike split_start
unfolding split_start
alike_split_start = search (alike_parts, alike_split_at_start)

alike_split_end : Alike split_end
unfolding split_end
alike_split_end = search (alike_parts, alike_split_at_end)

alike_split_ends : Alike split_ends
unfolding split_ends
alike_split_ends = search (alike_parts, alike_split_start, alike_split_end)

alike_unset_rival : (c : Command) → Alike (unset_rival c)
alike_unset_rival command.Subscript = alike_perform _ tt
alike_unset_rival command.Superscript = alike_perform _ tt
alike_unset_rival _ = alike_answer tt

alike_set_overrides : (command : Command) (v : Option (List ℕ)) → Alike (set_overrides command v)
unfolding set_overrides
alike_set_overrides command v = search (alike_parts, alike_unset_rival)

alike_clear_one : (command : Command) (e : ℕ) → Alike (clear_one command e)
unfolding clear_one
alike_clear_one command e = search (alike_parts, alike_clear_value)

alike_clear_elements : (command : Command) → Alike (clear_elements command)
unfolding clear_elements elements_in_range editable_in_range is_editable_for nodes_in_range
alike_clear_elements command = search (alike_parts, alike_clear_one)

alike_force_phrase : (command : Command) (v : Option (List ℕ)) (n : ℕ) → Alike (force_phrase command v n)
unfolding force_phrase
alike_force_phrase command v n = search (alike_parts, alike_force)

alike_give_node : (command : Command) (v : Option (List ℕ)) (n : ℕ) → Alike (give_node command v n)
unfolding give_node
alike_give_node command v n = search (alike_parts, alike_push_down, alike_force_phrase)

alike_give_nodes : (command : Command) (v : Option (List ℕ)) → Alike (give_nodes command v)
unfolding give_nodes editable_in_range is_editable_for nodes_in_range
alike_give_nodes command v = search (alike_parts, alike_give_node)

alike_give_range : (command : Command) (v : Option (List ℕ)) → Alike (give_range command v)
unfolding give_range
alike_give_range command v = search (alike_parts, alike_split_ends, alike_clear_elements, alike_give_nodes)

alike_set_value : (command : Command) (v : Option (List ℕ)) → Alike (set_value command v)
unfolding set_value first_formattable formattable_nodes
alike_set_value command v = search (alike_parts, alike_set_overrides, alike_give_range)

-- ---- toggling

alike_set_toggled : (c : Command) (on : List ℕ) → Alike (set_toggled c on)
unfolding set_toggled state_of is_on start_node formattable_nodes leaves list_state
alike_set_toggled c on = search (alike_parts, alike_set_value)

alike_toggle_style : (c : Command) → Alike (toggle_style c)
unfolding toggle_style
alike_toggle_style c = search (alike_parts, alike_set_toggled)

alike_set_unless : (state : Bool) (c : Command) (on : List ℕ) → Alike (set_unless state c on)
unfolding set_unless
alike_set_unless state c on = search (alike_parts, alike_set_value)

alike_set_script : (c : Command) (on : List ℕ) → Alike (set_script c on)
unfolding set_script state_of is_on start_node formattable_nodes leaves list_state
alike_set_script c on = search (alike_parts, alike_set_value, alike_set_unless)

alike_toggle_script : (c : Command) → Alike (toggle_script c)
unfolding toggle_script
alike_toggle_script c = search (alike_parts, alike_set_script)

-- ---- links

alike_relink : (v : List ℕ) (e : ℕ) → Alike (relink v e)
unfolding relink is_editable_for
alike_relink v e = search alike_parts

alike_relink_range : (v : List ℕ) → Alike (relink_range v)
unfolding relink_range links_around is_around nodes_in_range
alike_relink_range v = search (alike_parts, alike_relink)

alike_link_range : (v : List ℕ) → Alike (link_range v)
unfolding link_range
alike_link_range v = search (alike_parts, alike_relink_range, alike_set_value)

alike_link_to : (list : List ℕ) → Alike (link_to list)
alike_link_to [] = alike_answer false
alike_link_to (c ∷ v) = alike_link_range (c ∷ v)

alike_create_link : (v : List ℕ) → Alike (create_link v)
unfolding create_link
alike_create_link v = search (alike_parts, alike_link_to)

-- ---- fonts, sizes and colours

alike_set_taken : (c : Command) (v : List ℕ) → Alike (set_taken c v)
unfolding set_taken
alike_set_taken c v = search (alike_parts, alike_set_value)

alike_take : (c : Command) (taken : Option (List ℕ)) → Alike (take c taken)
unfolding take
alike_take c taken = search (alike_parts, alike_set_taken)

alike_apply_value : (c : Command) (v : List ℕ) → Alike (apply_value c v)
unfolding apply_value
alike_apply_value c v = search (alike_parts, alike_take)

-- ---- restoring states and values

alike_override_by : (c : Command) (setting : Setting) → Alike (override_by c setting)
alike_override_by c Absent = alike_answer tt
alike_override_by c setting = alike_perform _ tt

alike_set_override : (o : Override) → Alike (set_override o)
unfolding set_override
alike_set_override o = search (alike_parts, alike_override_by)

alike_turn_round : (c : Command) → Alike (turn_round c)
alike_turn_round command.Subscript = alike_toggle_script command.Subscript
alike_turn_round command.Superscript = alike_toggle_script command.Superscript
alike_turn_round c = alike_toggle_style c

alike_toggle_state : (c : Command) → Alike (toggle_state c)
unfolding toggle_state
alike_toggle_state c = search (alike_parts, alike_turn_round)

alike_restore_on : (c : Command) → Alike (restore_on c)
unfolding restore_on state_of is_on start_node formattable_nodes leaves list_state
alike_restore_on c = search (alike_parts, alike_toggle_state)

alike_restore_off : (c : Command) → Alike (restore_off c)
unfolding restore_off state_of is_on start_node formattable_nodes leaves list_state
alike_restore_off c = search (alike_parts, alike_toggle_state)

alike_restore_shown : (c : Command) (v : List ℕ) → Alike (restore_shown c v)
unfolding restore_shown value_of first_value first_formattable formattable_nodes start_node first_leaf leaves
alike_restore_shown c v = search (alike_parts, alike_apply_value)

alike_restore_link : (v : List ℕ) → Alike (restore_link v)
unfolding restore_link is_other_value has_alike first_formattable formattable_nodes
alike_restore_link v = search (alike_parts, alike_create_link)

alike_restore_size : (v : List ℕ) → Alike (restore_size v)
unfolding restore_size is_other_value has_alike first_formattable formattable_nodes
alike_restore_size v = search (alike_parts, alike_apply_value)

alike_restore_text : (c : Command) (v : List ℕ) → Alike (restore_text c v)
alike_restore_text command.FontName v = alike_restore_shown command.FontName v
alike_restore_text command.ForeColor v = alike_restore_shown command.ForeColor v
alike_restore_text command.HiliteColor v = alike_restore_shown command.HiliteColor v
alike_restore_text command.CreateLink v = alike_restore_link v
alike_restore_text command.FontSize v = alike_restore_size v
alike_restore_text _ v = alike_answer tt

alike_restore_setting : (c : Command) (setting : Setting) → Alike (restore_setting c setting)
alike_restore_setting c On = alike_restore_on c
alike_restore_setting c Off = alike_restore_off c
alike_restore_setting c (Text v) = alike_restore_text c v
alike_restore_setting c Absent = alike_answer tt

alike_restore_entry : (o : Override) → Alike (restore_entry o)
unfolding restore_entry
alike_restore_entry o = search (alike_parts, alike_restore_setting)

pub alike_restore_states : (list : List Override) → Alike (restore_states list)
unfolding restore_states first_formattable formattable_nodes
alike_restore_states list = search (alike_parts, alike_set_override, alike_restore_entry)
