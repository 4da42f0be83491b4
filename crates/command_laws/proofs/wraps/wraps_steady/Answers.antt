use Rattle.command_laws.proofs.SteadyWraps.{steady_wrap}
use Rattle.command_laws.proofs.wraps.wraps_steady.Goals as goal

pub returns : goal.returns
returns c = λ k r list plain. steady_wrap k r plain list
