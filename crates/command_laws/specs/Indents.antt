-- The laws of indent and outdent: of each, that its run keeps the order and leaves the states of
-- contenteditable.
use Rattle.edit_laws.specs.Steady.{Steady}
use Rattle.edit_laws.specs.OrderPreserving.{OrderPreserving}
use Rattle.list_indent.specs.Commands.{indent, outdent}

abbrev pub IndentKeepsOrder : Type 0
IndentKeepsOrder = OrderPreserving indent

abbrev pub IndentIsSteady : Type 0
IndentIsSteady = Steady indent

abbrev pub OutdentKeepsOrder : Type 0
OutdentKeepsOrder = OrderPreserving outdent

abbrev pub OutdentIsSteady : Type 0
OutdentIsSteady = Steady outdent
