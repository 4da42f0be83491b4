-- The laws of the block commands: the run of each is tame.
use Rattle.std.specs.Prelude.{ℕ, List}
use Rattle.block_commands.specs.FormatBlock.{format_block}
use Rattle.block_commands.specs.Justify.{justify}
use Rattle.making_laws.specs.Tame.{Tame}

abbrev pub BlocksAreTame : Type 0
BlocksAreTame = (v : List ℕ) → Tame (format_block v)

-- justifyLeft, justifyCenter, justifyRight and justifyFull, each by its alignment
abbrev pub JustifyingIsTame : Type 0
JustifyingIsTame = (alignment : List ℕ) → Tame (justify alignment)
