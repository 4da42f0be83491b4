use Rattle.live_range.proofs.RowBits.{or_bits}
use Rattle.live_range.proofs.rows.RowSet.or.Goals as goal

pub returns : goal.returns
returns c = λ r. or_bits c.args.self.bits c.args.other.bits r
