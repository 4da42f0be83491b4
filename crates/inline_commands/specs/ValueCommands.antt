-- The commands that take a value: fontName, fontSize, foreColor, backColor and hiliteColor (HTML
-- Editing APIs, "the fontName command", "the fontSize command", "the foreColor command", "the
-- backColor command", "the hiliteColor command"). The steps are those of docs/ALGORITHMS.md.
use Rattle.std.specs.Prelude.{ℕ, Bool, true, false, List, ◌∷◌, Option, Some, None, is_some, if◌then◌else◌}
use Rattle.std.specs.Option.{option_map, option_or}
use Rattle.inline_value.specs.CssValue.Colours.{colour_of}
use Rattle.inline_value.specs.CssValue.SizeKeywords.{size_keyword}
use Rattle.edit_model.specs.HtmlNames.declared.commands.Command.{Command}
use Rattle.edit_model.specs.HtmlNames.declared.commands.Command.TheVariants as command
use Rattle.inline_value.specs.NodeStyles.LegacySizes.{legacy_size_of}
use Rattle.edit_model.specs.Run.{Run, ◌>>◌, answer, given}
use Rattle.inline_value.specs.Selections.{set_value}

-- apply a value, step 2: the keyword of the size from 1 to 7 that the value stands for
unfoldable pub size_value : List ℕ → Option (List ℕ)
size_value v = option_map size_keyword (legacy_size_of v)

-- apply a value, step 3: the value where it is a colour, or else with "#" before it where that is
-- one
unfoldable pub if_colour : List ℕ → Option (List ℕ)
if_colour v = if is_some (colour_of v) then Some v else None

-- apply a value, step 3
unfoldable pub colour_value : List ℕ → Option (List ℕ)
colour_value v = option_or (if_colour v) (if_colour (35 ∷ v))

-- apply a value, steps 1 to 3: what the command takes the value for; nothing where it takes none
abbrev pub value_taken : Command → List ℕ → Option (List ℕ)
value_taken command.FontName v = Some v
value_taken command.FontSize v = size_value v
value_taken command.ForeColor v = colour_value v
value_taken command.BackColor v = colour_value v
value_taken command.HiliteColor v = colour_value v
value_taken _ v = None

-- apply a value, step 4
unfoldable pub set_taken : Command → List ℕ → Run Bool
set_taken c v = set_value c (Some v) >> answer true

-- apply a value, step 4, where something is taken; otherwise the answer is false
unfoldable pub take : Command → Option (List ℕ) → Run Bool
take c taken = given taken (answer false) (set_taken c)

-- apply a value, steps 1 to 4; any other command answers false
unfoldable pub apply_value : Command → List ℕ → Run Bool
apply_value c v = take c (value_taken c v)
