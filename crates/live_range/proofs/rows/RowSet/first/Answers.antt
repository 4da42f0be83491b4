use Rattle.std.proofs.Common.{arith}
use Rattle.live_range.proofs.RowBits.{lowest_within, lowest_there, none_below}
use Rattle.live_range.proofs.rows.RowSet.first.Goals as goal

pub returns-else-self-eq0-clause-found : goal.returns-else-self-eq0-clause-found
returns-else-self-eq0-clause-found c =
    (lowest_within c.args.self.bits (omega arith) (omega arith), lowest_there c.args.self.bits (omega arith) (omega arith))

pub returns-else-self-eq0-clause-lowest : goal.returns-else-self-eq0-clause-lowest
returns-else-self-eq0-clause-lowest c = λ r l. none_below c.args.self.bits (omega arith) (omega arith) r l
