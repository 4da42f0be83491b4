use Rattle.command_laws.proofs.Wrapping.{order_preserving_wrap_one}
use Rattle.command_laws.proofs.wraps.one_wraps.Goals as goal

pub returns : goal.returns
returns c = λ criterion r n plain makes. order_preserving_wrap_one criterion r n plain makes
