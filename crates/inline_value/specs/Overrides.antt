-- Recording the overrides, and recording the states and values of the first formattable node (HTML
-- Editing APIs, "record current overrides", "record current states and values"). The steps are
-- those of docs/ALGORITHMS.md.
use Rattle.std.specs.Prelude.{ℕ, Bool, true, false, List, [], ◌∷◌, Option, Some, None, if◌then◌else◌}
use Rattle.std.specs.Option.{option_map_or}
use Rattle.edit_model.specs.DomModel.declared.Content.{Content}
use Rattle.edit_model.specs.DomModel.Forest.{Forest}
use Rattle.edit_model.specs.HtmlNames.declared.commands.Command.{Command}
use Rattle.edit_model.specs.HtmlNames.declared.commands.Command.TheVariants as command
use Rattle.edit_model.specs.declared.settings.Setting.{Setting}
use Rattle.edit_model.specs.declared.settings.Setting.TheVariants.{On, Off, Text, Absent}
use Rattle.edit_model.specs.Overrides.{setting_of}
use Rattle.edit_model.specs.State.{State}
use Rattle.edit_model.specs.Run.{Run, look, answer}
use Rattle.wrap_split.specs.CommandValue.EffectiveValues.{effective, is_activated}
use Rattle.edit_query.specs.Formattable.{first_formattable}
use Rattle.edit_query.specs.Queries.{value_of}
use Rattle.inline_value.specs.declared.overrides.Override.{Override}

abbrev pub override : Command → Setting → Override
override command setting = record { command = command; setting = setting }

-- ---- the overrides that are set

-- record current overrides, step 1: the commands, in order
unfoldable pub overriding_commands : List Command
overriding_commands =
    command.CreateLink ∷ command.Bold ∷ command.Italic ∷ command.Strikethrough ∷ command.Subscript
    ∷ command.Superscript
    ∷ command.Underline ∷ command.FontName ∷ command.FontSize ∷ command.ForeColor
    ∷ command.HiliteColor ∷ []

abbrev pub is_set : Setting → Bool
is_set Absent = false
is_set _ = true

abbrev pub overrides_among : State → List Command → List Override
overrides_among s [] = []
overrides_among s (c ∷ commands) =
    if is_set (setting_of s.overrides c) then override c (setting_of s.overrides c)
    ∷ overrides_among s commands
    else overrides_among s commands

-- record current overrides, step 1
unfoldable pub overrides_of : State → List Override
overrides_of s = overrides_among s overriding_commands

-- record current overrides, step 1, as a run, which changes nothing
unfoldable pub record_overrides : Run (List Override)
record_overrides = look λ s. answer (overrides_of s)

-- ---- the states and values of a node

abbrev pub text_setting : Option (List ℕ) → Setting
text_setting None = Absent
text_setting (Some text) = Text text

abbrev pub on_or_off : Bool → Setting
on_or_off on = if on then On else Off

-- the command is on at the node
abbrev pub on_at : Forest Content → ℕ → Command → Override
on_at f n c = override c (on_or_off (is_activated f n c))

-- the value at the node
abbrev pub override_at : Forest Content → ℕ → Command → Override
override_at f n c = override c (text_setting (effective f n c))

-- the value that the command answers
abbrev pub answered : State → Command → Override
answered s c = override c (Text (value_of s s.host c))

-- record current states and values, step 2
unfoldable pub states_at : State → ℕ → List Override
states_at s n =
    override_at s.trees n command.CreateLink ∷ on_at s.trees n command.Bold
    ∷ on_at s.trees n command.Italic
    ∷ on_at s.trees n command.Strikethrough ∷ on_at s.trees n command.Subscript
    ∷ on_at s.trees n command.Superscript
    ∷ on_at s.trees n command.Underline ∷ answered s command.FontName
    ∷ answered s command.ForeColor ∷ answered s command.HiliteColor
    ∷ override_at s.trees n command.FontSize ∷ []

-- record current states and values, steps 1 and 2
unfoldable pub states_of : State → List Override
states_of s = option_map_or (states_at s) (first_formattable s s.host) []

-- record current states and values, steps 1 and 2, as a run, which changes nothing
unfoldable pub record_states : Run (List Override)
record_states = look λ s. answer (states_of s)
