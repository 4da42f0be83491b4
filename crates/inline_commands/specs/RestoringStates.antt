-- Restoring recorded states and values (HTML Editing APIs, "restore states and values"). The steps
-- are those of docs/ALGORITHMS.md.
use Rattle.std.specs.Prelude.{ℕ, Bool, false, not, List, bytes_eq, Option, Some, None, is_none, if◌then◌else◌}
use Rattle.std.specs.Option.{option_map_or}
use Rattle.edit_model.specs.HtmlNames.declared.commands.Command.{Command}
use Rattle.edit_model.specs.HtmlNames.declared.commands.Command.TheVariants as command
use Rattle.inline_value.specs.CommandValue.Equivalence.{equivalent}
use Rattle.edit_model.specs.Overrides.{setting_of}
use Rattle.edit_model.specs.declared.settings.Setting.{Setting}
use Rattle.edit_model.specs.declared.settings.Setting.TheVariants.{On, Off, Text, Absent}
use Rattle.edit_model.specs.State.{State}
use Rattle.edit_model.specs.Run.{Run, ◌>>=◌, ◌>>◌, done, look, for_each, set_setting}
use Rattle.inline_value.specs.EditQuery.Formattable.{first_formattable}
use Rattle.inline_value.specs.EditQuery.Queries.{state_of, value_of}
use Rattle.inline_value.specs.EditQuery.Rows.{legacy_text}
use Rattle.inline_value.specs.Forcing.{has_alike}
use Rattle.inline_value.specs.declared.overrides.Override.{Override}
use Rattle.inline_commands.specs.Toggling.{toggle_style, toggle_script}
use Rattle.inline_commands.specs.Linking.{create_link}
use Rattle.inline_commands.specs.ValueCommands.{apply_value}

-- ---- restore states and values, step 2: without a formattable node

-- restore states and values, step 2: the entry becomes the override of its command; null is passed
-- over
abbrev pub override_by : Command → Setting → Run (Unit {0})
override_by c Absent = done
override_by c setting = set_setting c setting

-- restore states and values, step 2: one entry
unfoldable pub set_override : Override → Run (Unit {0})
set_override o = override_by o.command o.setting

-- ---- restore states and values, steps 3 to 6: with one

-- restore states and values, step 3: a state that differs is toggled
abbrev pub turn_round : Command → Run Bool
turn_round command.Subscript = toggle_script command.Subscript
turn_round command.Superscript = toggle_script command.Superscript
turn_round c = toggle_style c

-- restore states and values, step 3: the command's action
unfoldable pub toggle_state : Command → Run (Unit {0})
toggle_state c = turn_round c >> done

-- restore states and values, step 3: a true
unfoldable pub restore_on : Command → Run (Unit {0})
restore_on c = look λ s. if state_of s s.host c then done else toggle_state c

-- restore states and values, step 3: a false
unfoldable pub restore_off : Command → Run (Unit {0})
restore_off c = look λ s. if state_of s s.host c then toggle_state c else done

-- restore states and values, step 4: a font or a colour that isn't equivalent to the command's
-- value
unfoldable pub restore_shown : Command → List ℕ → Run (Unit {0})
restore_shown c v = look λ s.
    if equivalent c (Some v) (Some (value_of s s.host c)) then done else (apply_value c v >> done)

-- The text differs from the value override; or there is none, and it isn't alike to the value at
-- the first formattable node. For createLink equal texts alone are alike.
abbrev pub differs_at : State → Command → List ℕ → Option ℕ → Bool
differs_at s c v None = false
differs_at s c v (Some n) = not (has_alike s n c (Some v))

abbrev pub differs_from : State → Command → List ℕ → Setting → Bool
differs_from s c v (Text u) = not (bytes_eq u v)
differs_from s c v _ = differs_at s c v (first_formattable s s.host)

-- restore states and values, steps 5 and 6: whether a text differs
unfoldable pub is_other_value : State → Command → List ℕ → Bool
is_other_value s c v = differs_from s c v (setting_of s.overrides c)

-- restore states and values, step 5: a link
unfoldable pub restore_link : List ℕ → Run (Unit {0})
restore_link v =
    look λ s. if is_other_value s command.CreateLink v then create_link v >> done else done

-- restore states and values, step 6: a size, by the legacy size of its pixels
unfoldable pub restore_size : List ℕ → Run (Unit {0})
restore_size v = look λ s.
    if is_other_value s command.FontSize v then apply_value command.FontSize (legacy_text v) >> done
    else done

-- restore states and values, steps 4 to 6: a text, by its command
abbrev pub restore_text : Command → List ℕ → Run (Unit {0})
restore_text command.FontName v = restore_shown command.FontName v
restore_text command.ForeColor v = restore_shown command.ForeColor v
restore_text command.HiliteColor v = restore_shown command.HiliteColor v
restore_text command.CreateLink v = restore_link v
restore_text command.FontSize v = restore_size v
restore_text _ v = done

-- restore states and values, steps 3 to 6: an entry is true, false, a text, or null
abbrev pub restore_setting : Command → Setting → Run (Unit {0})
restore_setting c On = restore_on c
restore_setting c Off = restore_off c
restore_setting c (Text v) = restore_text c v
restore_setting c Absent = done

-- restore states and values, steps 3 to 6: one entry
unfoldable pub restore_entry : Override → Run (Unit {0})
restore_entry o = restore_setting o.command o.setting

-- ---- all entries

-- restore states and values, step 1, and then 2, or 3 to 6 for each entry in order
unfoldable pub restore_states : List Override → Run (Unit {0})
restore_states list = look λ s.
    if is_none (first_formattable s s.host) then for_each list set_override
    else for_each list restore_entry
