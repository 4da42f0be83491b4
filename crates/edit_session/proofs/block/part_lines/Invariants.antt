use Rattle.std.proofs.Common.{length, ◌-◌}
use Rattle.edit_session.proofs.BlockLemmas.{Passed}
use Rattle.edit_session.proofs.block.part_lines.Given as goal

abbrev pub invariant-loop-at : goal.invariant-loop-at
invariant-loop-at l = Passed l.word l.lines l.at

abbrev pub decreases-loop-at : goal.decreases-loop-at
decreases-loop-at l = length l.lines - l.at
