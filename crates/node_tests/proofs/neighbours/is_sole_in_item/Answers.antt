use Rattle.std.proofs.Common.{sym, ap, ◌∙◌, ◌&&◌}
use Rattle.node_tests.proofs.Alone.{sole_item, not_item, root_item}
use Rattle.node_tests.proofs.neighbours.is_sole_in_item.Goals as goal

pub returns-then-has_name : goal.returns-then-has_name
returns-then-has_name g c =
    ap (λ a. a && c.is_alone.result) (sym c.if-has_name.true)
    ∙ sole_item (g.N.Nodes.trees c.args.nodes.now) c.valid.ensures.distinct c.args.node.label c.in-Some.parent.label (sym c.in-Some.ensures.is) c.has_name.result c.is_alone.result c.has_name.ensures c.is_alone.ensures

pub returns-else-has_name : goal.returns-else-has_name
returns-else-has_name g c =
    not_item (g.N.Nodes.trees c.args.nodes.now) c.valid.ensures.distinct c.args.node.label c.in-Some.parent.label (sym c.in-Some.ensures.is) c.has_name.result c.has_name.ensures c.if-has_name.false

pub returns-in-None : goal.returns-in-None
returns-in-None g c = root_item (g.N.Nodes.trees c.args.nodes.now) c.args.node.label (sym c.in-None.ensures.is)
