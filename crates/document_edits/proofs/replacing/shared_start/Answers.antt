use Rattle.std.proofs.Common.{arith}
use Rattle.document_edits.proofs.Sharing.{second_ends}
use Rattle.document_edits.proofs.replacing.shared_start.Goals as goal

pub returns-else-at-new-clause-shared : goal.returns-else-at-new-clause-shared
returns-else-at-new-clause-shared c = second_ends c.args.old.now c.args.new.now c.loop-at.at c.loop-at.invariant (omega arith)
