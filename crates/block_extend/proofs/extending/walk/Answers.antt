use Rattle.std.proofs.Common.{sym, ◌∙◌, arith}
use Rattle.block_extend.specs.Gaps.{point_of, step, stops}
use Rattle.block_extend.proofs.Walking.{walk_ends, walk_met, walk_goes, walk_out}
use Rattle.block_extend.proofs.extending.walk.Goals as goal

pub returns-in-None-clause-place : goal.returns-in-None-clause-place
returns-in-None-clause-place g c =
    let f = g.N.Nodes.trees c.args.nodes.now in
    let led = rw c.in-None.is at c.step.ensures in
    walk_ends (step c.args.way f) (stops c.args.way f) c.walk.left (point_of c.walk.at) c.walk-test.true led ∙ c.walk.invariant.same

pub returns-then-stops-clause-place : goal.returns-then-stops-clause-place
returns-then-stops-clause-place g c =
    let f = g.N.Nodes.trees c.args.nodes.now in
    let led = rw c.in-Some.is at c.step.ensures in
    walk_met (step c.args.way f) (stops c.args.way f) c.walk.left (point_of c.walk.at) (point_of c.in-Some.next) c.walk-test.true led.0 (sym c.stops.ensures ∙ c.if-stops.true) ∙ c.walk.invariant.same

pub walk-preserved : goal.walk-preserved
walk-preserved g c =
    let f = g.N.Nodes.trees c.args.nodes.now in
    let led = rw c.in-Some.is at c.step.ensures in
    record {
      stands = led.1;
      same = walk_goes (step c.args.way f) (stops c.args.way f) c.walk.left (point_of c.walk.at) (point_of c.in-Some.next) c.walk-test.true led.0 (sym c.stops.ensures ∙ c.if-stops.false) ∙ c.walk.invariant.same;
    }

pub returns-clause-place : goal.returns-clause-place
returns-clause-place g c =
    let f = g.N.Nodes.trees c.args.nodes.now in
    let done = c.walk-test.false in
    walk_out (step c.args.way f) (stops c.args.way f) c.walk.left (point_of c.walk.at) (omega (arith, done)) ∙ c.walk.invariant.same
