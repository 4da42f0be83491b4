use Rattle.command_laws.proofs.Breaks.{order_preserving_breaks_before}
use Rattle.command_laws.proofs.line_breaks.breaks_before_go.Goals as goal

pub returns : goal.returns
returns c = λ n. order_preserving_breaks_before n
