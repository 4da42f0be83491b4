-- What stands round the action of a command: commands that change blocks or delete give back at a
-- caret the overrides that were set before (HTML Editing APIs, "record current overrides", "restore
-- states and values").
use Rattle.std.specs.Prelude.{Bool, true, false, List, if◌then◌else◌}
use Rattle.edit_model.specs.Run.{Run, ◌>>=◌, ◌>>◌, answer, done, look}
use Rattle.inline_value.specs.EditQuery.Carets.{is_caret}
use Rattle.inline_value.specs.Overrides.{overrides_of}
use Rattle.inline_value.specs.declared.overrides.Override.{Override}
use Rattle.inline_commands.specs.RestoringStates.{restore_states}

-- only where the selection is a caret now
unfoldable pub restore_at_caret : List Override → Run (Unit {0})
restore_at_caret list = look λ s. if is_caret s then restore_states list else done

-- an action that answers false is taken back, so there is nothing to restore
abbrev pub give_back : List Override → Bool → Run Bool
give_back list true = restore_at_caret list >> answer true
give_back list false = answer false

unfoldable pub recorded_action : Run Bool → Run Bool
recorded_action m = look λ s. m >>= give_back (overrides_of s)

-- the action of a command that records the overrides or doesn't
abbrev pub framed : Bool → Run Bool → Run Bool
framed true m = recorded_action m
framed false m = m
