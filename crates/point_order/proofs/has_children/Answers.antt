use Rattle.std.proofs.Common.{arith}
use Rattle.node_arena.specs.DomModel.Forest.{children_of}
use Rattle.node_arena.specs.Held.{label}
use Rattle.point_order.proofs.Children.{walked_none, walked_on, enough, too_few}
use Rattle.point_order.proofs.has_children.Goals as goal

pub loop-left-init : goal.loop-left-init
loop-left-init g c = record {
  held = c.first_child-child.ensures.held;
  walked = walked_none (g.N.Nodes.trees c.args.nodes.now) c.valid.ensures.distinct c.args.node.label c.args.count (label c.first_child-child.result) c.first_child-child.ensures.is;
}

pub next-child-requires : goal.next-child-requires
next-child-requires g c = let held = rw c.in-Some.is at c.loop-left.invariant.held in held

pub loop-left-preserved : goal.loop-left-preserved
loop-left-preserved g c =
    let walked = rw c.in-Some.is at c.loop-left.invariant.walked in
    record {
      held = c.next-child.ensures.held;
      walked = walked_on (g.N.Nodes.trees c.args.nodes.now) c.valid.ensures.distinct c.args.node.label c.loop-left.left c.args.count c.in-Some.at.label (label c.next-child.result) c.loop-left-test.true walked c.next-child.ensures.is;
    }

pub returns-in-None : goal.returns-in-None
returns-in-None g c =
    let walked = rw c.in-None.is at c.loop-left.invariant.walked in
    too_few (children_of (g.N.Nodes.trees c.args.nodes.now) c.args.node.label) c.loop-left.left c.args.count c.loop-left-test.true walked

pub returns : goal.returns
returns g c =
    let done = c.loop-left-test.false in
    enough (children_of (g.N.Nodes.trees c.args.nodes.now) c.args.node.label) c.loop-left.left c.args.count (label c.loop-left.child) (omega (arith, done)) c.loop-left.invariant.walked
