use Rattle.std.proofs.Common.{ap, arith}
use Rattle.node_paths.specs.NodeArena.Held.{label}
use Rattle.block_extend.proofs.Stepping.{before_child, index_fits, stands_forth}
use Rattle.block_extend.proofs.places.one_forth.Goals as goal

pub overflow_add-result : goal.overflow_add-result
overflow_add-result g c =
    let law = c.valid.ensures in
    let named = rw c.in-Some.is at c.requires.stands.after in
    let place = (before_child law c.args.at c.requires.stands c.in-Some.child.label (ap label c.in-Some.is)).0 in
    omega (arith, place, index_fits law c.in-Some.child named.held)

pub returns-in-Some-clause-stands : goal.returns-in-Some-clause-stands
returns-in-Some-clause-stands g c =
    stands_forth c.valid.ensures c.args.at c.requires.stands c.in-Some.child c.in-Some.is c.next.result c.next.ensures
