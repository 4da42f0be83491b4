use Rattle.std.proofs.Common.{length, ◌-◌}
use Rattle.document_edits.proofs.Sharing.{AreShared}
use Rattle.document_edits.proofs.replacing.shared_start.Given as goal

abbrev pub invariant-loop-at : goal.invariant-loop-at
invariant-loop-at l = AreShared l.old l.new l.at

abbrev pub decreases-loop-at : goal.decreases-loop-at
decreases-loop-at l = length l.old - l.at
