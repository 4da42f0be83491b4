-- The laws of the block commands: of each, that its run keeps the order and leaves the states of
-- contenteditable.
use Rattle.std.specs.Prelude.{ℕ, List}
use Rattle.edit_laws.specs.Steady.{Steady}
use Rattle.edit_laws.specs.OrderPreserving.{OrderPreserving}
use Rattle.block_commands.specs.FormatBlock.{format_block}
use Rattle.block_commands.specs.Justify.{justify}

abbrev pub BlocksKeepOrder : Type 0
BlocksKeepOrder = (v : List ℕ) → OrderPreserving (format_block v)

abbrev pub BlocksAreSteady : Type 0
BlocksAreSteady = (v : List ℕ) → Steady (format_block v)

-- justifyLeft, justifyCenter, justifyRight and justifyFull, each by its alignment
abbrev pub JustifyingKeepsOrder : Type 0
JustifyingKeepsOrder = (alignment : List ℕ) → OrderPreserving (justify alignment)

abbrev pub JustifyingIsSteady : Type 0
JustifyingIsSteady = (alignment : List ℕ) → Steady (justify alignment)
