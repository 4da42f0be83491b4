use Rattle.live_range.proofs.RowBits.{clear_bit, clear_less}
use Rattle.live_range.proofs.rows.RowSet.without.Goals as goal

pub returns-clause-rows : goal.returns-clause-rows
returns-clause-rows c = λ r l. clear_bit c.args.self.bits c.args.row c.requires r l

pub returns-clause-less : goal.returns-clause-less
returns-clause-less c = λ h. clear_less c.args.self.bits c.args.row c.requires h
