use Rattle.node_tests.proofs.Reaching.{before_reaches}
use Rattle.node_tests.proofs.listing.end_reach.Goals as goal

pub returns-then-sides-clause-reaches : goal.returns-then-sides-clause-reaches
returns-then-sides-clause-reaches g c = before_reaches c.valid.ensures c.args.end c.args.node.label (c.requires.before c.if-sides.true)
