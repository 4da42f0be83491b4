-- The inline commands ignore marks and the cap.
use Rattle.std.proofs.Common.{ℕ, Bool, List, Option, false, [], ◌∷◌}
use Rattle.edit_model.specs.HtmlNames.declared.commands.Command.{Command}
use Rattle.edit_model.specs.HtmlNames.declared.commands.Command.TheVariants as command
use Rattle.edit_model.specs.Confined.{is_editable_for}
use Rattle.edit_model.specs.declared.settings.Setting.{Setting}
use Rattle.edit_model.specs.declared.settings.Setting.TheVariants.{Absent, On, Off, Text}
use Rattle.inline_value.specs.EditQuery.Queries.{state_of, value_of}
use Rattle.inline_value.specs.EditQuery.Rows.{is_on, first_value}
use Rattle.inline_value.specs.EditQuery.Formattable.{start_node, formattable_nodes, first_formattable}
use Rattle.inline_value.specs.EditQuery.Leaves.{leaves, first_leaf}
use Rattle.inline_value.specs.EditQuery.ListStates.{list_state}
use Rattle.inline_value.specs.Selections.{nodes_in_range, editable_in_range}
use Rattle.inline_value.specs.declared.overrides.Override.{Override}
use Rattle.inline_value.specs.Forcing.{has_alike}
use Rattle.inline_commands.specs.Toggling.{set_toggled, toggle_style, set_unless, set_script, toggle_script}
use Rattle.inline_commands.specs.Linking.{relink, relink_range, links_around, is_around, link_range, link_to, create_link}
use Rattle.inline_commands.specs.Unlink.{clear_links, unlink, links_touched}
use Rattle.inline_commands.specs.RemovingFormat.{unwrap_candidates, candidates_in_range, is_candidate, part_from_format, is_formatted, part_nodes, clear_command, clear_commands, remove_format}
use Rattle.inline_commands.specs.ValueCommands.{set_taken, take, apply_value}
use Rattle.inline_commands.specs.RestoringStates.{override_by, set_override, turn_round, toggle_state, restore_on, restore_off, restore_shown, restore_link, is_other_value, restore_size, restore_text, restore_setting, restore_entry, restore_states}
use Rattle.independence_laws.proofs.SelectionRuns.{ignores_set_value, ignores_clear_one, ignores_split_ends}
use Rattle.independence_laws.proofs.IgnoringRuns.{ignores_answer, ignores_perform, ignoring_parts}
use Rattle.independence_laws.proofs.MoveRuns.{ignores_unwrap}
use Rattle.independence_laws.proofs.SplitRuns.{ignores_split_around}
use Rattle.independence_laws.specs.Ignoring.{IgnoresMarks}

-- ---- toggling

ignores_set_toggled : (c : Command) (on : List ℕ) → IgnoresMarks (set_toggled c on)
unfolding set_toggled state_of is_on start_node formattable_nodes leaves list_state
ignores_set_toggled c on = search (ignoring_parts, ignores_set_value)

pub ignores_toggle_style : (c : Command) → IgnoresMarks (toggle_style c)
unfolding toggle_style
ignores_toggle_style c = search (ignoring_parts, ignores_set_toggled)

ignores_set_unless : (state : Bool) (c : Command) (on : List ℕ) → IgnoresMarks (set_unless state c on)
unfolding set_unless
ignores_set_unless state c on = search (ignoring_parts, ignores_set_value)

ignores_set_script : (c : Command) (on : List ℕ) → IgnoresMarks (set_script c on)
unfolding set_script state_of is_on start_node formattable_nodes leaves list_state
ignores_set_script c on = search (ignoring_parts, ignores_set_value, ignores_set_unless)

pub ignores_toggle_script : (c : Command) → IgnoresMarks (toggle_script c)
unfolding toggle_script
ignores_toggle_script c = search (ignoring_parts, ignores_set_script)

-- ---- links

ignores_relink : (v : List ℕ) (e : ℕ) → IgnoresMarks (relink v e)
unfolding relink is_editable_for
ignores_relink v e = search ignoring_parts

ignores_relink_range : (v : List ℕ) → IgnoresMarks (relink_range v)
unfolding relink_range links_around is_around nodes_in_range
ignores_relink_range v = search (ignoring_parts, ignores_relink)

ignores_link_range : (v : List ℕ) → IgnoresMarks (link_range v)
unfolding link_range
ignores_link_range v = search (ignoring_parts, ignores_relink_range, ignores_set_value)

ignores_link_to : (list : List ℕ) → IgnoresMarks (link_to list)
ignores_link_to [] = ignores_answer false
ignores_link_to (c ∷ v) = ignores_link_range (c ∷ v)

pub ignores_create_link : (v : List ℕ) → IgnoresMarks (create_link v)
unfolding create_link
ignores_create_link v = search (ignoring_parts, ignores_link_to)

-- ---- unlink

ignores_clear_links : (list : List ℕ) → IgnoresMarks (clear_links list)
unfolding clear_links
ignores_clear_links list = search (ignoring_parts, ignores_clear_one)

pub ignores_unlink : IgnoresMarks unlink
unfolding unlink links_touched
ignores_unlink = search (ignoring_parts, ignores_clear_links)

-- ---- removing the format

ignores_unwrap_candidates : IgnoresMarks unwrap_candidates
unfolding unwrap_candidates candidates_in_range is_candidate nodes_in_range
ignores_unwrap_candidates = search (ignoring_parts, ignores_unwrap)

ignores_part_from_format : (n : ℕ) → IgnoresMarks (part_from_format n)
unfolding part_from_format is_formatted is_candidate
ignores_part_from_format n = search (ignoring_parts, ignores_split_around)

ignores_part_nodes : IgnoresMarks part_nodes
unfolding part_nodes editable_in_range is_editable_for nodes_in_range
ignores_part_nodes = search (ignoring_parts, ignores_part_from_format)

ignores_clear_command : (c : Command) → IgnoresMarks (clear_command c)
unfolding clear_command
ignores_clear_command c = search (ignoring_parts, ignores_set_value)

ignores_clear_commands : IgnoresMarks clear_commands
unfolding clear_commands
ignores_clear_commands = search (ignoring_parts, ignores_clear_command)

pub ignores_remove_format : IgnoresMarks remove_format
unfolding remove_format
ignores_remove_format = search (ignoring_parts, ignores_unwrap_candidates, ignores_split_ends, ignores_part_nodes, ignores_clear_commands)

-- ---- fonts, sizes and colours

ignores_set_taken : (c : Command) (v : List ℕ) → IgnoresMarks (set_taken c v)
unfolding set_taken
ignores_set_taken c v = search (ignoring_parts, ignores_set_value)

ignores_take : (c : Command) (taken : Option (List ℕ)) → IgnoresMarks (take c taken)
unfolding take
ignores_take c taken = search (ignoring_parts, ignores_set_taken)

pub ignores_apply_value : (c : Command) (v : List ℕ) → IgnoresMarks (apply_value c v)
unfolding apply_value
ignores_apply_value c v = search (ignoring_parts, ignores_take)

-- ---- restoring states and values

ignores_override_by : (c : Command) (setting : Setting) → IgnoresMarks (override_by c setting)
ignores_override_by c Absent = ignores_answer tt
ignores_override_by c setting = ignores_perform _

ignores_set_override : (o : Override) → IgnoresMarks (set_override o)
unfolding set_override
ignores_set_override o = search (ignoring_parts, ignores_override_by)

ignores_turn_round : (c : Command) → IgnoresMarks (turn_round c)
ignores_turn_round command.Subscript = ignores_toggle_script command.Subscript
ignores_turn_round command.Superscript = ignores_toggle_script command.Superscript
ignores_turn_round c = ignores_toggle_style c

ignores_toggle_state : (c : Command) → IgnoresMarks (toggle_state c)
unfolding toggle_state
ignores_toggle_state c = search (ignoring_parts, ignores_turn_round)

ignores_restore_on : (c : Command) → IgnoresMarks (restore_on c)
unfolding restore_on state_of is_on start_node formattable_nodes leaves list_state
ignores_restore_on c = search (ignoring_parts, ignores_toggle_state)

ignores_restore_off : (c : Command) → IgnoresMarks (restore_off c)
unfolding restore_off state_of is_on start_node formattable_nodes leaves list_state
ignores_restore_off c = search (ignoring_parts, ignores_toggle_state)

ignores_restore_shown : (c : Command) (v : List ℕ) → IgnoresMarks (restore_shown c v)
unfolding restore_shown value_of first_value first_formattable formattable_nodes start_node first_leaf leaves
ignores_restore_shown c v = search (ignoring_parts, ignores_apply_value)

ignores_restore_link : (v : List ℕ) → IgnoresMarks (restore_link v)
unfolding restore_link is_other_value has_alike first_formattable formattable_nodes
ignores_restore_link v = search (ignoring_parts, ignores_create_link)

ignores_restore_size : (v : List ℕ) → IgnoresMarks (restore_size v)
unfolding restore_size is_other_value has_alike first_formattable formattable_nodes
ignores_restore_size v = search (ignoring_parts, ignores_apply_value)

ignores_restore_text : (c : Command) (v : List ℕ) → IgnoresMarks (restore_text c v)
ignores_restore_text command.FontName v = ignores_restore_shown command.FontName v
ignores_restore_text command.ForeColor v = ignores_restore_shown command.ForeColor v
ignores_restore_text command.HiliteColor v = ignores_restore_shown command.HiliteColor v
ignores_restore_text command.CreateLink v = ignores_restore_link v
ignores_restore_text command.FontSize v = ignores_restore_size v
ignores_restore_text _ v = ignores_answer tt

ignores_restore_setting : (c : Command) (setting : Setting) → IgnoresMarks (restore_setting c setting)
ignores_restore_setting c On = ignores_restore_on c
ignores_restore_setting c Off = ignores_restore_off c
ignores_restore_setting c (Text v) = ignores_restore_text c v
ignores_restore_setting c Absent = ignores_answer tt

ignores_restore_entry : (o : Override) → IgnoresMarks (restore_entry o)
unfolding restore_entry
ignores_restore_entry o = search (ignoring_parts, ignores_restore_setting)

pub ignores_restore_states : (list : List Override) → IgnoresMarks (restore_states list)
unfolding restore_states first_formattable formattable_nodes
ignores_restore_states list = search (ignoring_parts, ignores_set_override, ignores_restore_entry)
