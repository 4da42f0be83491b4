use Rattle.std.proofs.Common.{refl, sym, ap, ◌∙◌, not}
use Rattle.node_tests.specs.declared.sides.Side.TheVariants.{Before}
use Rattle.node_tests.proofs.Tags.{child_less, over_less, up_less}
use Rattle.node_tests.proofs.Collapsing.{come_back, gone_down, leaf_found, leaf_passed, up_found, up_passed, top_collapses}
use Rattle.node_tests.proofs.whitespace.collapses_before.Goals as goal

pub walk-init : goal.walk-init
walk-init g c = come_back c.valid.ensures c.args.node c.prev-tree.result _ c.requires c.prev-tree.ensures refl

pub walk-smaller-in-Some-last_child : goal.walk-smaller-in-Some-last_child
walk-smaller-in-Some-last_child g c =
    let law = c.valid.ensures in
    let walked = rw c.in-Some.is at c.walk.invariant in
    rw c.in-Some.is (child_less law Before c.in-Some.inner.label c.in-Some-last_child.last.label (law.here c.in-Some.inner walked.tree_held) (sym c.in-Some-last_child.ensures.is))

pub walk-preserved-in-Some-last_child : goal.walk-preserved-in-Some-last_child
walk-preserved-in-Some-last_child g c =
    let walked = rw c.in-Some.is at c.walk.invariant in
    gone_down c.valid.ensures c.walk.at c.in-Some.inner _ walked c.in-Some-last_child.last c.in-Some-last_child.ensures.held (sym c.in-Some-last_child.ensures.is)

pub returns-in-Some-met_at : goal.returns-in-Some-met_at
returns-in-Some-met_at g c =
    let walked = rw c.in-Some.is at c.walk.invariant in
    ap not c.is_solid_neighbour.ensures
    ∙ leaf_found c.valid.ensures c.walk.at c.in-Some.inner _ walked (sym c.in_default-last_child.ensures.is) c.in-Some-met_at.met c.in-Some-met_at.ensures

pub walk-smaller-in_default-last_child : goal.walk-smaller-in_default-last_child
walk-smaller-in_default-last_child g c =
    let law = c.valid.ensures in
    let walked = rw c.in-Some.is at c.walk.invariant in
    rw (c.in-Some.is, c.prev-tree-in_default-last_child.ensures.is) (over_less law Before c.in-Some.inner.label (law.here c.in-Some.inner walked.tree_held))

pub walk-preserved-in_default-last_child : goal.walk-preserved-in_default-last_child
walk-preserved-in_default-last_child g c =
    let walked = rw c.in-Some.is at c.walk.invariant in
    leaf_passed c.valid.ensures c.walk.at c.in-Some.inner _ walked (sym c.in_default-last_child.ensures.is) c.in_default-met_at.ensures c.prev-tree-in_default-last_child.result c.prev-tree-in_default-last_child.ensures

pub returns-in-None : goal.returns-in-None
returns-in-None g c =
    let law = c.valid.ensures in
    let walked = rw c.in_default.is at c.walk.invariant in
    top_collapses (g.N.Nodes.trees c.args.nodes.now) law.distinct c.walk.at.label (law.here c.walk.at walked.held) (sym c.in-None.ensures.is) ∙ walked.same

pub returns-in-Some-met_at-2 : goal.returns-in-Some-met_at-2
returns-in-Some-met_at-2 g c =
    let walked = rw c.in_default.is at c.walk.invariant in
    ap not c.is_solid_neighbour-in-Some-met_at-2.ensures
    ∙ up_found (g.N.Nodes.trees c.args.nodes.now) c.valid.ensures.distinct c.walk.at.label c.in-Some-parent.parent.label (sym c.in-Some-parent.ensures.is) (walked.first refl) c.in-Some-met_at-2.met c.in-Some-met_at-2.ensures
    ∙ walked.same

pub walk-smaller : goal.walk-smaller
walk-smaller g c =
    let walked = rw c.in_default.is at c.walk.invariant in
    rw (c.in_default.is, c.prev-tree-in-Some-parent.ensures.is) (up_less c.valid.ensures Before c.walk.at.label c.in-Some-parent.parent.label (sym c.in-Some-parent.ensures.is) (walked.first refl))

pub walk-preserved : goal.walk-preserved
walk-preserved g c =
    let walked = rw c.in_default.is at c.walk.invariant in
    come_back c.valid.ensures c.in-Some-parent.parent c.prev-tree-in-Some-parent.result _ c.in-Some-parent.ensures.held c.prev-tree-in-Some-parent.ensures (
    up_passed (g.N.Nodes.trees c.args.nodes.now) c.valid.ensures.distinct c.walk.at.label c.in-Some-parent.parent.label (sym c.in-Some-parent.ensures.is) (walked.first refl) c.in_default-met_at-2.ensures ∙ walked.same)
