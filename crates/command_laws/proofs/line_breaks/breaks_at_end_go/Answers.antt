use Rattle.command_laws.proofs.Breaks.{order_preserving_breaks_at_end}
use Rattle.command_laws.proofs.line_breaks.breaks_at_end_go.Goals as goal

pub returns : goal.returns
returns c = λ n. order_preserving_breaks_at_end n
