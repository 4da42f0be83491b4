-- The laws of the inline commands, and of what other commands take from them: of each, that its run
-- keeps the order and leaves the states of contenteditable.
use Rattle.std.specs.Prelude.{ℕ, List}
use Rattle.edit_model.specs.HtmlNames.declared.commands.Command.{Command}
use Rattle.edit_laws.specs.Steady.{Steady}
use Rattle.edit_laws.specs.OrderPreserving.{OrderPreserving}
use Rattle.inline_value.specs.declared.overrides.Override.{Override}
use Rattle.inline_value.specs.Ancestors.{fix_ancestors}
use Rattle.inline_commands.specs.Linking.{create_link}
use Rattle.inline_commands.specs.RemovingFormat.{remove_format}
use Rattle.inline_commands.specs.RestoringStates.{restore_states}
use Rattle.inline_commands.specs.Toggling.{toggle_style, toggle_script}
use Rattle.inline_commands.specs.Unlink.{unlink}
use Rattle.inline_commands.specs.ValueCommands.{apply_value}

-- bold, italic, underline and strikethrough
abbrev pub StylesKeepOrder : Type 0
StylesKeepOrder = (c : Command) → OrderPreserving (toggle_style c)

abbrev pub StylesAreSteady : Type 0
StylesAreSteady = (c : Command) → Steady (toggle_style c)

-- subscript and superscript
abbrev pub ScriptsKeepOrder : Type 0
ScriptsKeepOrder = (c : Command) → OrderPreserving (toggle_script c)

abbrev pub ScriptsAreSteady : Type 0
ScriptsAreSteady = (c : Command) → Steady (toggle_script c)

abbrev pub LinkingKeepsOrder : Type 0
LinkingKeepsOrder = (v : List ℕ) → OrderPreserving (create_link v)

abbrev pub LinkingIsSteady : Type 0
LinkingIsSteady = (v : List ℕ) → Steady (create_link v)

abbrev pub UnlinkKeepsOrder : Type 0
UnlinkKeepsOrder = OrderPreserving unlink

abbrev pub UnlinkIsSteady : Type 0
UnlinkIsSteady = Steady unlink

abbrev pub FormatGoesInOrder : Type 0
FormatGoesInOrder = OrderPreserving remove_format

abbrev pub FormatGoesSteady : Type 0
FormatGoesSteady = Steady remove_format

-- fontName, fontSize, foreColor, backColor and hiliteColor
abbrev pub ValuesKeepOrder : Type 0
ValuesKeepOrder = (c : Command) (v : List ℕ) → OrderPreserving (apply_value c v)

abbrev pub ValuesAreSteady : Type 0
ValuesAreSteady = (c : Command) (v : List ℕ) → Steady (apply_value c v)

-- ---- for block commands and deletion

abbrev pub AncestorsAreFixedInOrder : Type 0
AncestorsAreFixedInOrder = (n : ℕ) → OrderPreserving (fix_ancestors n)

abbrev pub AncestorsAreFixedSteady : Type 0
AncestorsAreFixedSteady = (n : ℕ) → Steady (fix_ancestors n)

abbrev pub StatesComeBackInOrder : Type 0
StatesComeBackInOrder = (list : List Override) → OrderPreserving (restore_states list)

abbrev pub StatesComeBackSteady : Type 0
StatesComeBackSteady = (list : List Override) → Steady (restore_states list)
