-- The laws of the commands for lists: the run of each is tame.
use Rattle.list_indent.specs.Commands.{indent, outdent}
use Rattle.list_toggle.specs.Toggle.{toggle_lists}
use Rattle.list_toggle.specs.declared.toggling.ListKind.{ListKind}
use Rattle.making_laws.specs.Tame.{Tame}

abbrev pub IndentIsTame : Type 0
IndentIsTame = Tame indent

abbrev pub OutdentIsTame : Type 0
OutdentIsTame = Tame outdent

-- insertOrderedList, and insertUnorderedList
abbrev pub ListTogglesAreTame : Type 0
ListTogglesAreTame = (kind : ListKind) → Tame (toggle_lists kind)
