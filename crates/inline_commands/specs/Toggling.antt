-- The commands that turn a style, or a script, on and off (HTML Editing APIs, "the bold command",
-- "the italic command", "the underline command", "the strikethrough command", "the subscript
-- command", "the superscript command"). The steps are those of docs/ALGORITHMS.md.
use Rattle.std.specs.Prelude.{ℕ, Bool, true, false, List, codes, Option, Some, None, if◌then◌else◌}
use Rattle.edit_model.specs.HtmlNames.declared.commands.Command.{Command}
use Rattle.edit_model.specs.HtmlNames.declared.commands.Command.TheVariants as command
use Rattle.edit_model.specs.Run.{Run, ◌>>=◌, ◌>>◌, answer, done, look, given}
use Rattle.inline_value.specs.EditQuery.Queries.{state_of}
use Rattle.inline_value.specs.Selections.{set_value}

-- ---- bold, italic, underline and strikethrough

-- the value that turns the command on; these four have one
abbrev pub style_on : Command → Option (List ℕ)
style_on command.Bold = Some (codes "bold")
style_on command.Italic = Some (codes "italic")
style_on command.Underline = Some (codes "underline")
style_on command.Strikethrough = Some (codes "line-through")
style_on _ = None

-- the value that turns it off, which is null for a line
abbrev pub style_off : Command → Option (List ℕ)
style_off command.Bold = Some (codes "normal")
style_off command.Italic = Some (codes "normal")
style_off _ = None

abbrev pub toggled : Command → List ℕ → Bool → Option (List ℕ)
toggled c on state = if state then style_off c else Some on

-- toggle a style, steps 1 and 2
unfoldable pub set_toggled : Command → List ℕ → Run Bool
set_toggled c on = look λ s. set_value c (toggled c on (state_of s s.host c)) >> answer true

-- toggle a style, steps 1 and 2; any other command answers false
unfoldable pub toggle_style : Command → Run Bool
toggle_style c = given (style_on c) (answer false) (set_toggled c)

-- ---- subscript and superscript

-- the value that turns the command on; these two have one
abbrev pub script_on : Command → Option (List ℕ)
script_on command.Subscript = Some (codes "subscript")
script_on command.Superscript = Some (codes "superscript")
script_on _ = None

-- toggle a script, step 3
unfoldable pub set_unless : Bool → Command → List ℕ → Run (Unit {0})
set_unless state c on = if state then done else set_value c (Some on)

-- toggle a script, steps 1 to 3: the state is asked for before the value is cleared
unfoldable pub set_script : Command → List ℕ → Run Bool
set_script c on = look λ s. do
  set_value c None
  set_unless (state_of s s.host c) c on
  answer true

-- toggle a script, steps 1 to 3; any other command answers false
unfoldable pub toggle_script : Command → Run Bool
toggle_script c = given (script_on c) (answer false) (set_script c)
