use Rattle.std.proofs.Common.{sym, ◌∙◌}
use Rattle.node_tests.proofs.Hosting.{takes_none, takes_at, takes_below}
use Rattle.node_tests.proofs.affected.takes_commands.Goals as goal

pub returns-then-host-node : goal.returns-then-host-node
returns-then-host-node g c =
    takes_at (g.N.Nodes.trees c.args.nodes.now) c.valid.ensures.distinct c.args.node.label c.in-Some.host.label c.in-Some.ensures.host c.in-Some.ensures.own c.if-host-node.true

pub returns-else-host-node : goal.returns-else-host-node
returns-else-host-node g c =
    c.is_editable.ensures
    ∙ takes_below (g.N.Nodes.trees c.args.nodes.now) c.valid.ensures.distinct c.args.node.label c.in-Some.host.label c.in-Some.ensures.host c.in-Some.ensures.own c.if-host-node.false

pub returns-in-None : goal.returns-in-None
returns-in-None g c = sym (takes_none (g.N.Nodes.trees c.args.nodes.now) c.valid.ensures.distinct c.args.node.label c.in-None.ensures.none)
