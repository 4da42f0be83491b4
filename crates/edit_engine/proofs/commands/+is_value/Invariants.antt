use Rattle.std.proofs.Common.{length}
use Rattle.edit_engine.proofs.commands.+is_value.Given as goal

abbrev pub decreases-is_value : goal.decreases-is_value
decreases-is_value l = length l.value.now
