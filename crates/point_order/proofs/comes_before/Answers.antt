use Rattle.std.proofs.Common.{refl, ap, ◌∙◌}
use Rattle.node_arena.specs.DomModel.Forest.{is_label}
use Rattle.node_arena.specs.DomModel.Places.{first_of_two}
use Rattle.point_order.proofs.Order.{is_before-same, is_before-child, is_before-under, is_before-beside}
use Rattle.point_order.proofs.comes_before.Goals as goal

pub returns-then-point-other : goal.returns-then-point-other
returns-then-point-other g c = is_before-same (g.N.Nodes.trees c.args.nodes.now) c.args.point c.args.other c.if-point-other.true

pub returns-in-Some : goal.returns-in-Some
returns-in-Some g c =
    is_before-child (g.N.Nodes.trees c.args.nodes.now) c.args.point c.args.other c.if-point-other.false c.node_of-node.result.label c.node_of-other_node.result.label c.node_of-node.ensures.label c.node_of-other_node.ensures.label c.in-Some.child.label c.index.result c.in-Some.ensures.is c.index.ensures

pub returns-in-Some-child_toward : goal.returns-in-Some-child_toward
returns-in-Some-child_toward g c =
    is_before-under (g.N.Nodes.trees c.args.nodes.now) c.args.point c.args.other c.if-point-other.false c.node_of-node.result.label c.node_of-other_node.result.label c.node_of-node.ensures.label c.node_of-other_node.ensures.label c.in-Some-child_toward.child.label c.index-in-Some-child_toward.result c.in_default.ensures.is c.in-Some-child_toward.ensures.is c.index-in-Some-child_toward.ensures

pub returns : goal.returns
returns g c =
    let f = g.N.Nodes.trees c.args.nodes.now in
    let a = c.node_of-node.result.label in
    let b = c.node_of-other_node.result.label in
    c.is_earlier.ensures
    ∙ (ap (λ l. is_label (first_of_two f a b) l) c.node_of-node.ensures.label
    ∙ is_before-beside f c.args.point c.args.other c.if-point-other.false a b c.node_of-node.ensures.label c.node_of-other_node.ensures.label (first_of_two f a b) c.in_default.ensures.is c.in_default-child_toward.ensures.is refl)
