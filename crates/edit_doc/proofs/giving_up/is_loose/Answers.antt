use Rattle.std.proofs.Common.{refl}
use Rattle.edit_doc.proofs.GivingUp.{loose_found, none_loose}
use Rattle.edit_doc.proofs.giving_up.is_loose.Goals as goal

pub returns-then-label-gt0 : goal.returns-then-label-gt0
returns-then-label-gt0 c = loose_found c.args.arena.now c.valid.ensures c.in-Some.node c.args.label c.in-Some.ensures.found.0 c.in-Some.ensures.found.1 c.if-label-gt0.true c.parent.result c.is_none.result c.parent.ensures.is c.is_none.ensures

pub returns-in-None : goal.returns-in-None
returns-in-None c = none_loose c.args.arena.now c.args.label (c.in-None.ensures.absent.0 refl)
