-- Setting a value on the selection, which splits the texts at its ends, and the inline commands leave the selection in the host.
use Rattle.std.proofs.Common.{ℕ, Bool, List, [], ◌∷◌, Option}
use Rattle.edit_model.specs.DomModel.declared.Content.{Content}
use Rattle.edit_model.specs.DomModel.Forest.{Forest}
use Rattle.edit_model.specs.HtmlNames.declared.commands.Command.{Command}
use Rattle.edit_model.specs.HtmlNames.declared.commands.Command.TheVariants as command
use Rattle.edit_model.specs.LiveRange.declared.places.Point.{Point}
use Rattle.edit_model.specs.LiveRange.declared.places.Pair.{Pair}
use Rattle.edit_model.specs.PointOrder.PointOrder.{is_before}
use Rattle.edit_model.specs.declared.settings.Setting.{Setting}
use Rattle.edit_model.specs.declared.settings.Setting.TheVariants.{On, Off, Text, Absent}
use Rattle.edit_laws.specs.InHost.{IsNear, IsNearPair}
use Rattle.edit_laws.proofs.HostRuns.{Stays, stays_parts, stays_calm, stays_answer, stays_if, stays_look_at, stays_perform, stays_from, gives_split}
use Rattle.inline_value.specs.EditActions.ActiveRange.{start_of}
use Rattle.inline_value.specs.declared.overrides.Override.{Override}
use Rattle.inline_value.specs.Selections.{with_start, set_start, start_text, split_at_start, split_at_end, split_start, split_end, split_ends, give_range, set_value}
use Rattle.inline_commands.specs.Linking.{link_range, link_to, create_link}
use Rattle.inline_commands.specs.RemovingFormat.{clear_command, clear_commands, remove_format}
use Rattle.inline_commands.specs.RestoringStates.{turn_round, toggle_state, restore_on, restore_off, restore_shown, restore_link, restore_size, restore_text, restore_setting, restore_entry, restore_states}
use Rattle.inline_commands.specs.Toggling.{set_toggled, toggle_style, set_unless, set_script, toggle_script}
use Rattle.inline_commands.specs.ValueCommands.{set_taken, take, apply_value}
use Rattle.selection_laws.proofs.CalmFormats.{calm_relink_range, calm_part_nodes, calm_unwrap_candidates, calm_set_override}
use Rattle.selection_laws.proofs.CalmValues.{calm_clear_elements, calm_give_nodes, calm_set_overrides}
use Rattle.selection_laws.proofs.Points.{either_point, near_start}
use Rattle.selection_laws.proofs.Selected.{stays_at_selection}

module _ (outer : Forest Content) (h : ℕ) (kept : Bool) where
  -- ---- splitting the texts at the ends

  stays_with_start : (f : Forest Content) (pair : Pair) (at : Point) → IsNearPair outer h pair → IsNear outer h at.label → Stays outer h kept (with_start f pair at)
  stays_with_start f pair at near near_at =
      stays_if outer h kept (is_before f pair.focus pair.anchor) _ _
      (stays_perform outer h kept _ (either_point outer h kept (is_before f pair.anchor at) at pair.anchor near_at near.0, near_at))
      (stays_perform outer h kept _ (near_at, either_point outer h kept (is_before f pair.focus at) at pair.focus near_at near.1))

  stays_set_start : (at : Point) → IsNear outer h at.label → Stays outer h kept (set_start at)
  unfolding set_start
  stays_set_start at near_at =
      stays_at_selection outer h kept _ (λ s pair. with_start s.trees pair at) (stays_answer outer h kept tt)
      (λ s is pair near. stays_with_start s.trees pair at near near_at)

  stays_start_text : (tail : ℕ) → IsNear outer h tail → Stays outer h kept (start_text tail)
  unfolding start_text
  stays_start_text tail near = stays_set_start (record { label = tail; offset = 0 }) near

  stays_split_at_start : (at : Point) → IsNear outer h at.label → Stays outer h kept (split_at_start at)
  unfolding split_at_start
  stays_split_at_start at near =
      stays_look_at outer h kept _
      (λ s. stays_if outer h kept _ _ _ (stays_from outer h kept (IsNear outer h) _ _ (gives_split outer h kept at.label at.offset near) stays_start_text) (stays_answer outer h kept tt))

  stays_split_at_end : (at : Point) → Stays outer h kept (split_at_end at)
  unfolding split_at_end
  stays_split_at_end at = search stays_parts

  stays_split_start : Stays outer h kept split_start
  unfolding split_start
  stays_split_start =
      stays_at_selection outer h kept _ (λ s pair. split_at_start (start_of s.trees pair)) (stays_answer outer h kept tt)
      (λ s is pair near. stays_split_at_start (start_of s.trees pair) (near_start outer h kept s.trees pair near))

  stays_split_end : Stays outer h kept split_end
  unfolding split_end
  stays_split_end = search (stays_parts, stays_split_at_end)

  stays_split_ends : Stays outer h kept split_ends
  unfolding split_ends
  stays_split_ends = search (stays_parts, stays_split_start, stays_split_end)

  -- ---- setting a value

  stays_give_range : (c : Command) (v : Option (List ℕ)) → Stays outer h kept (give_range c v)
  unfolding give_range
  stays_give_range c v = search (stays_parts, stays_split_ends, stays_calm, calm_clear_elements, calm_give_nodes)

  stays_set_value : (c : Command) (v : Option (List ℕ)) → Stays outer h kept (set_value c v)
  unfolding set_value
  stays_set_value c v = search (stays_parts, stays_give_range, stays_calm, calm_set_overrides)

  -- ---- the commands

  stays_set_toggled : (c : Command) (v : List ℕ) → Stays outer h kept (set_toggled c v)
  unfolding set_toggled
  stays_set_toggled c v = search (stays_parts, stays_set_value)

  pub stays_toggle_style : (c : Command) → Stays outer h kept (toggle_style c)
  unfolding toggle_style
  stays_toggle_style c = search (stays_parts, stays_set_toggled)

  stays_set_unless : (b : Bool) (c : Command) (v : List ℕ) → Stays outer h kept (set_unless b c v)
  unfolding set_unless
  stays_set_unless b c v = search (stays_parts, stays_set_value)

  stays_set_script : (c : Command) (v : List ℕ) → Stays outer h kept (set_script c v)
  unfolding set_script
  stays_set_script c v = search (stays_parts, stays_set_value, stays_set_unless) depth 8

  pub stays_toggle_script : (c : Command) → Stays outer h kept (toggle_script c)
  unfolding toggle_script
  stays_toggle_script c = search (stays_parts, stays_set_script)

  stays_link_range : (v : List ℕ) → Stays outer h kept (link_range v)
  unfolding link_range
  stays_link_range v = search (stays_parts, stays_set_value, stays_calm, calm_relink_range)

  stays_link_to : (v : List ℕ) → Stays outer h kept (link_to v)
  stays_link_to [] = stays_answer outer h kept _
  stays_link_to (c ∷ v) = stays_link_range (c ∷ v)

  pub stays_create_link : (v : List ℕ) → Stays outer h kept (create_link v)
  unfolding create_link
  stays_create_link v = search (stays_parts, stays_link_to)

  stays_clear_command : (c : Command) → Stays outer h kept (clear_command c)
  unfolding clear_command
  stays_clear_command c = search (stays_parts, stays_set_value)

  stays_clear_commands : Stays outer h kept clear_commands
  unfolding clear_commands
  stays_clear_commands = search (stays_parts, stays_clear_command)

  pub stays_remove_format : Stays outer h kept remove_format
  unfolding remove_format
  stays_remove_format = search (stays_parts, stays_clear_commands, stays_split_ends, stays_calm, calm_part_nodes, calm_unwrap_candidates) depth 9

  stays_set_taken : (c : Command) (v : List ℕ) → Stays outer h kept (set_taken c v)
  unfolding set_taken
  stays_set_taken c v = search (stays_parts, stays_set_value)

  stays_take : (c : Command) (v : Option (List ℕ)) → Stays outer h kept (take c v)
  unfolding take
  stays_take c v = search (stays_parts, stays_set_taken)

  pub stays_apply_value : (c : Command) (v : List ℕ) → Stays outer h kept (apply_value c v)
  unfolding apply_value
  stays_apply_value c v = search (stays_parts, stays_take)

  -- ---- restoring states and values

  stays_turn_round : (c : Command) → Stays outer h kept (turn_round c)
  stays_turn_round command.Subscript = stays_toggle_script command.Subscript
  stays_turn_round command.Superscript = stays_toggle_script command.Superscript
  stays_turn_round c = stays_toggle_style c

  stays_toggle_state : (c : Command) → Stays outer h kept (toggle_state c)
  unfolding toggle_state
  stays_toggle_state c = search (stays_parts, stays_turn_round)

  stays_restore_on : (c : Command) → Stays outer h kept (restore_on c)
  unfolding restore_on
  stays_restore_on c = search (stays_parts, stays_toggle_state)

  stays_restore_off : (c : Command) → Stays outer h kept (restore_off c)
  unfolding restore_off
  stays_restore_off c = search (stays_parts, stays_toggle_state)

  stays_restore_shown : (c : Command) (v : List ℕ) → Stays outer h kept (restore_shown c v)
  unfolding restore_shown
  stays_restore_shown c v = search (stays_parts, stays_apply_value)

  stays_restore_link : (v : List ℕ) → Stays outer h kept (restore_link v)
  unfolding restore_link
  stays_restore_link v = search (stays_parts, stays_create_link)

  stays_restore_size : (v : List ℕ) → Stays outer h kept (restore_size v)
  unfolding restore_size
  stays_restore_size v = search (stays_parts, stays_apply_value)

  stays_restore_text : (c : Command) (v : List ℕ) → Stays outer h kept (restore_text c v)
  stays_restore_text command.FontName v = stays_restore_shown command.FontName v
  stays_restore_text command.ForeColor v = stays_restore_shown command.ForeColor v
  stays_restore_text command.HiliteColor v = stays_restore_shown command.HiliteColor v
  stays_restore_text command.CreateLink v = stays_restore_link v
  stays_restore_text command.FontSize v = stays_restore_size v
  stays_restore_text _ v = stays_answer outer h kept tt

  stays_restore_setting : (c : Command) (setting : Setting) → Stays outer h kept (restore_setting c setting)
  stays_restore_setting c On = stays_restore_on c
  stays_restore_setting c Off = stays_restore_off c
  stays_restore_setting c (Text v) = stays_restore_text c v
  stays_restore_setting c Absent = stays_answer outer h kept tt

  stays_restore_entry : (o : Override) → Stays outer h kept (restore_entry o)
  unfolding restore_entry
  stays_restore_entry o = stays_restore_setting o.command o.setting

  pub stays_restore_states : (list : List Override) → Stays outer h kept (restore_states list)
  unfolding restore_states
  stays_restore_states list = search (stays_parts, stays_restore_entry, stays_calm, calm_set_override)
