use Rattle.std.proofs.Common.{length}
use Rattle.node_styles.proofs.hints.+spells.Given as goal

abbrev pub decreases-spells : goal.decreases-spells
decreases-spells l = length l.text.now
