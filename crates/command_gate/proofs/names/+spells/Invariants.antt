use Rattle.std.specs.Prelude.{length}
use Rattle.command_gate.proofs.names.+spells.Given as goal

abbrev pub decreases-spells : goal.decreases-spells
decreases-spells l = length l.name.now
