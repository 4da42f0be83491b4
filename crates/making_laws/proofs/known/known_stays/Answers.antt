use Rattle.making_laws.proofs.Knowing.{knows_along}
use Rattle.making_laws.proofs.known.known_stays.Goals as goal

pub returns : goal.returns
returns c = λ source s t r is known tame. knows_along source r is known tame
