use Rattle.node_tests.proofs.Reaching.{ends_next, ends_same}
use Rattle.node_tests.proofs.listing.first_after.Goals as goal

pub returns-in-Some : goal.returns-in-Some
returns-in-Some g c = ends_next c.valid.ensures c.args.point c.args.top.label c.args.reach c.requires c.in-Some.child c.in-Some.is c.if-reach.true c.next.result c.next.ensures

pub returns-in_default : goal.returns-in_default
returns-in_default g c = ends_same c.valid.ensures c.args.point c.args.top.label c.args.reach c.requires c.if-reach.false
