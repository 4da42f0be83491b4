-- What goes on from one command to the next: which commands' edits join the last entry.
use Rattle.std.specs.Prelude.{◌≡◌, Bool, true, false, ◌&&◌, ◌||◌, Option, Some, None, if◌then◌else◌, refl}
use Rattle.std.specs.Coded.{Coded, code_by, coded_bool, coded_option}
use Rattle.edit_model.specs.HtmlNames.declared.commands.Command.{Command}
use Rattle.edit_engine.specs.Commands.{types_text}
use Rattle.edit_engine.specs.declared.going.Going.{Going}
use Rattle.edit_engine.specs.declared.going.Going.TheVariants.{Over, Step, Typing}

abbrev pub going_parts : Going → Option Bool
going_parts Over = None
going_parts Step = Some false
going_parts Typing = Some true

abbrev pub of_going_parts : Option Bool → Going
of_going_parts None = Over
of_going_parts (Some false) = Step
of_going_parts (Some true) = Typing

pub of_going_parts-going_parts : (g : Going) → of_going_parts (going_parts g) ≡ g
of_going_parts-going_parts Over = refl
of_going_parts-going_parts Step = refl
of_going_parts-going_parts Typing = refl

abbrev pub going_code : Coded Going
going_code = code_by (Option Bool) (coded_option coded_bool) going_parts of_going_parts of_going_parts-going_parts

-- ---- whose edits join

abbrev pub is_typing : Going → Bool
is_typing Over = false
is_typing Step = false
is_typing Typing = true

-- there is a last entry that nothing has come after
abbrev pub goes_on : Going → Bool
goes_on Over = false
goes_on Step = true
goes_on Typing = true

-- Whether the edits of a command join the last entry. By itself only what is typed joins what was
-- typed; a joined command goes on with the last entry, whatever command made it.
abbrev pub joins_by : (joined : Bool) → Going → Command → Bool
joins_by false g c = is_typing g && types_text c
joins_by true g c = goes_on g

-- ---- after a command

-- An insertText with an edit begins the typing, and one without leaves it as it is. Any other
-- command ends it, and leaves a last entry to go on with where it made an edit, or would have joined
-- that entry.
abbrev pub going_after : Going → (joining : Bool) → Command → (edited : Bool) → Going
going_after g joining c edited =
    if types_text c && (edited || is_typing g) then Typing
    else (if edited || joining then Step else Over)

-- undo and redo leave nothing to go on with where they take an entry
abbrev pub going_turned : (taken : Bool) → Going → Going
going_turned true g = Over
going_turned false g = g
