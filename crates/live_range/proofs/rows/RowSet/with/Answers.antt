use Rattle.live_range.proofs.RowBits.{set_bit}
use Rattle.live_range.proofs.rows.RowSet.with.Goals as goal

pub returns : goal.returns
returns c = λ r. set_bit c.args.self.bits c.args.row c.requires r
