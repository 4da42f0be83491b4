use Rattle.node_tests.proofs.Turning.{stands_start, stands_end}
use Rattle.node_tests.proofs.breaks.end_of.Goals as goal

pub returns-in-Before-clause-place : goal.returns-in-Before-clause-place
returns-in-Before-clause-place g c = rw c.in-Before.is (stands_start c.valid.ensures c.args.node c.first_child.result c.first_child.ensures.is)

pub returns-in-After-clause-place : goal.returns-in-After-clause-place
returns-in-After-clause-place g c = rw c.in-After.is (stands_end c.valid.ensures c.args.node c.requires c.last_child.result c.last_child.ensures.is)
