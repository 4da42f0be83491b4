use Rattle.std.proofs.Common.{◌+◌, sym, ap}
use Rattle.node_styles.specs.DomModel.Places.{index_of}
use Rattle.node_tests.specs.declared.sides.Side.TheVariants.{Before, After}
use Rattle.node_tests.specs.LineBreaks.{out_to}
use Rattle.node_tests.proofs.Turning.{stands_before, stands_after}
use Rattle.node_tests.proofs.breaks.out_of.Goals as goal

pub returns-in-Before : goal.returns-in-Before
returns-in-Before g c =
    let f = g.N.Nodes.trees c.args.nodes.now in
    let l = c.args.node.label in
    let child = sym c.in-Some.ensures.is in
    rw c.in-Before.is (
      record { node = c.in-Some.parent.label; offset = index_of f l },
      ap (out_to Before f l) child,
      record { node = c.in-Some.ensures.held; before = c.prev.ensures.held; after = c.requires },
      stands_before c.valid.ensures c.args.node c.in-Some.parent child c.prev.result c.prev.ensures.is,
    )

pub returns-in-After : goal.returns-in-After
returns-in-After g c =
    let f = g.N.Nodes.trees c.args.nodes.now in
    let l = c.args.node.label in
    let child = sym c.in-Some.ensures.is in
    rw c.in-After.is (
      record { node = c.in-Some.parent.label; offset = index_of f l + 1 },
      ap (out_to After f l) child,
      record { node = c.in-Some.ensures.held; before = c.requires; after = c.next.ensures.held },
      stands_after c.valid.ensures c.args.node c.in-Some.parent child c.next.result c.next.ensures.is,
    )
