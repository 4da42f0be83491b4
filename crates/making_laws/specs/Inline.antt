-- The laws of the inline commands, and of what other commands take from them: the run of each is
-- tame.
use Rattle.std.specs.Prelude.{ℕ, List}
use Rattle.edit_model.specs.HtmlNames.declared.commands.Command.{Command}
use Rattle.inline_value.specs.declared.overrides.Override.{Override}
use Rattle.inline_value.specs.Ancestors.{fix_ancestors}
use Rattle.inline_commands.specs.Linking.{create_link}
use Rattle.inline_commands.specs.RemovingFormat.{remove_format}
use Rattle.inline_commands.specs.RestoringStates.{restore_states}
use Rattle.inline_commands.specs.Toggling.{toggle_style, toggle_script}
use Rattle.inline_commands.specs.Unlink.{unlink}
use Rattle.inline_commands.specs.ValueCommands.{apply_value}
use Rattle.making_laws.specs.Tame.{Tame}

-- bold, italic, underline and strikethrough
abbrev pub StylesAreTame : Type 0
StylesAreTame = (c : Command) → Tame (toggle_style c)

-- subscript and superscript
abbrev pub ScriptsAreTame : Type 0
ScriptsAreTame = (c : Command) → Tame (toggle_script c)

abbrev pub LinkingIsTame : Type 0
LinkingIsTame = (v : List ℕ) → Tame (create_link v)

abbrev pub UnlinkIsTame : Type 0
UnlinkIsTame = Tame unlink

abbrev pub FormatGoesTame : Type 0
FormatGoesTame = Tame remove_format

-- fontName, fontSize, foreColor, backColor and hiliteColor
abbrev pub ValuesAreTame : Type 0
ValuesAreTame = (c : Command) (v : List ℕ) → Tame (apply_value c v)

-- ---- for block commands and deletion

abbrev pub AncestorsAreFixedTame : Type 0
AncestorsAreFixedTame = (n : ℕ) → Tame (fix_ancestors n)

abbrev pub StatesComeBackTame : Type 0
StatesComeBackTame = (list : List Override) → Tame (restore_states list)
