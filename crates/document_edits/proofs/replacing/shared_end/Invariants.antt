use Rattle.std.proofs.Common.{length, ◌-◌}
use Rattle.std.specs.Prelude.{reverse}
use Rattle.document_edits.proofs.Sharing.{AreShared}
use Rattle.document_edits.proofs.replacing.shared_end.Given as goal

abbrev pub invariant-loop-same : goal.invariant-loop-same
invariant-loop-same l = AreShared (reverse l.old) (reverse l.new) l.same

abbrev pub decreases-loop-same : goal.decreases-loop-same
decreases-loop-same l = length l.old - l.same
