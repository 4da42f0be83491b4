use Rattle.node_tests.proofs.Reaching.{after_reaches}
use Rattle.node_tests.proofs.listing.start_reach.Goals as goal

pub returns-then-sides-clause-reaches : goal.returns-then-sides-clause-reaches
returns-then-sides-clause-reaches g c = after_reaches c.valid.ensures c.args.start c.args.node.label (c.requires.after c.if-sides.true) c.first_child.result c.first_child.ensures
