-- The laws of toggling ordered and unordered lists: that its run keeps the order and leaves the
-- states of contenteditable.
use Rattle.edit_laws.specs.Steady.{Steady}
use Rattle.edit_laws.specs.OrderPreserving.{OrderPreserving}
use Rattle.list_toggle.specs.Toggle.{toggle_lists}
use Rattle.list_toggle.specs.declared.toggling.ListKind.{ListKind}

-- insertOrderedList, and insertUnorderedList
abbrev pub ListTogglesKeepOrder : Type 0
ListTogglesKeepOrder = (kind : ListKind) → OrderPreserving (toggle_lists kind)

abbrev pub ListTogglesAreSteady : Type 0
ListTogglesAreSteady = (kind : ListKind) → Steady (toggle_lists kind)
