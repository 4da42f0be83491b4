use Rattle.live_range.proofs.Positions.{no_names}
use Rattle.live_range.proofs.names.Names.new.Goals as goal

pub invariant_of-result : goal.invariant_of-result
invariant_of-result c = no_names c.new.result.items c.new-2.result.entries c.new.ensures.items c.new-2.ensures.empty
