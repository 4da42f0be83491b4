use Rattle.std.proofs.Common.{sym, ◌∙◌}
use Rattle.node_tests.proofs.Walking.{begun, found, gone_in, in_nearer, gone_out, out_nearer, at_edge, at_top}
use Rattle.node_tests.proofs.neighbours.neighbour_on.Goals as goal

pub walk-init : goal.walk-init
walk-init g c = begun c.valid.ensures c.args.side c.args.node c.sibling-next.result c.requires c.sibling-next.ensures

pub returns-in-Some-met_at : goal.returns-in-Some-met_at
returns-in-Some-met_at g c =
    let walked = rw c.in-Some.is at c.walk.invariant in
    found c.valid.ensures c.args.side c.walk.at c.in-Some.inner _ walked c.in-Some-met_at.met c.in-Some-met_at.ensures

pub walk-smaller-in-Some : goal.walk-smaller-in-Some
walk-smaller-in-Some g c =
    let walked = rw c.in-Some.is at c.walk.invariant in
    rw c.in-Some.is (in_nearer c.valid.ensures c.args.side c.walk.at c.in-Some.inner _ walked c.inward-next.result c.inward-next.ensures)

pub walk-preserved-in-Some : goal.walk-preserved-in-Some
walk-preserved-in-Some g c =
    let walked = rw c.in-Some.is at c.walk.invariant in
    gone_in c.valid.ensures c.args.side c.walk.at c.in-Some.inner _ walked c.in_default-met_at.ensures c.inward-next.result c.inward-next.ensures

pub walk-smaller : goal.walk-smaller
walk-smaller g c =
    let walked = rw c.in_default.is at c.walk.invariant in
    rw c.in_default.is (out_nearer c.valid.ensures c.args.side c.walk.at _ walked c.in-Some-parent.parent.label (sym c.in-Some-parent.ensures.is) c.sibling-next-in-Some-parent.result c.sibling-next-in-Some-parent.ensures)

pub walk-preserved : goal.walk-preserved
walk-preserved g c =
    let walked = rw c.in_default.is at c.walk.invariant in
    gone_out c.valid.ensures c.args.side c.walk.at _ walked c.in-Some-parent.parent (sym c.in-Some-parent.ensures.is) c.in-Some-parent.ensures.held (sym c.is_block.ensures ∙ c.if-not-is_block.true) c.sibling-next-in-Some-parent.result c.sibling-next-in-Some-parent.ensures

pub returns-in_default-parent : goal.returns-in_default-parent
returns-in_default-parent g c =
    let walked = rw c.in_default.is at c.walk.invariant in
    at_edge c.valid.ensures c.args.side c.walk.at _ walked c.in-Some-parent.parent.label (sym c.in-Some-parent.ensures.is) (sym c.is_block.ensures ∙ c.if-not-is_block.false)

pub returns-in_default-parent-2 : goal.returns-in_default-parent-2
returns-in_default-parent-2 g c =
    let walked = rw c.in_default.is at c.walk.invariant in
    at_top c.valid.ensures c.args.side c.walk.at _ walked (sym c.in_default-parent.ensures.is)
