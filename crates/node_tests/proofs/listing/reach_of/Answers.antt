use Rattle.node_tests.proofs.Line.{at_end, not_own, read_leads, read_names}
use Rattle.node_tests.proofs.Reaching.{own_reaches, toward_reaches}
use Rattle.node_tests.proofs.listing.reach_of.Goals as goal

pub returns-then-left-eq0-clause-reaches : goal.returns-then-left-eq0-clause-reaches
returns-then-left-eq0-clause-reaches g c =
    let f = g.N.Nodes.trees c.args.nodes.now in
    own_reaches c.valid.ensures c.args.point c.args.node.label (at_end (g.N.Nodes.holds c.args.nodes.now) f c.args.line.now c.args.point.label c.args.left c.args.node.label c.if-left-eq0.true c.requires.leads) c.child_at.result c.child_at.ensures

pub returns-clause-reaches : goal.returns-clause-reaches
returns-clause-reaches g c =
    let law = c.valid.ensures in
    let holds = g.N.Nodes.holds c.args.nodes.now in
    let f = g.N.Nodes.trees c.args.nodes.now in
    let top = c.args.node.label in
    toward_reaches law c.args.point top (law.here c.args.node c.requires.node_held) c.requires.inside (not_own holds f c.args.line.now c.args.point.label c.args.left top c.if-left-eq0.false c.requires.leads law.distinct) c.last_of.result
    (read_names holds f c.args.line.now c.args.point.label c.args.left top c.if-left-eq0.false c.requires.leads law.distinct c.last_of.result c.last_of.ensures)

pub returns-clause-own : goal.returns-clause-own
returns-clause-own g c e =
    absurd (not_own (g.N.Nodes.holds c.args.nodes.now) (g.N.Nodes.trees c.args.nodes.now) c.args.line.now c.args.point.label c.args.left c.args.node.label c.if-left-eq0.false c.requires.leads c.valid.ensures.distinct e)

pub returns-clause-leads : goal.returns-clause-leads
returns-clause-leads g c m on e =
    read_leads (g.N.Nodes.holds c.args.nodes.now) (g.N.Nodes.trees c.args.nodes.now) c.args.line.now c.args.point.label c.args.left c.args.node.label c.if-left-eq0.false c.requires.leads c.last_of.result c.last_of.ensures m e
