use Rattle.block_extend.proofs.Stepping.{stands_back}
use Rattle.block_extend.proofs.places.one_back.Goals as goal

pub returns-in-Some-clause-stands : goal.returns-in-Some-clause-stands
returns-in-Some-clause-stands g c =
    stands_back c.valid.ensures c.args.at c.requires.stands c.in-Some.child c.in-Some.is c.requires.some c.prev.result c.prev.ensures
