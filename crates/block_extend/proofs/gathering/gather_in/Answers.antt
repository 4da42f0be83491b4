use Rattle.std.proofs.Common.{◌≡◌, sym, ap, ◌∙◌, subst}
use Rattle.std.specs.Prelude.{filter}
use Rattle.node_tests.specs.Ranges.{contained_nodes}
use Rattle.block_extend.specs.Order.{IsInOrder}
use Rattle.block_extend.proofs.Ordered.{chosen_in_order}
use Rattle.block_extend.proofs.Taking.{labels}
use Rattle.block_extend.proofs.gathering.gather_in.Goals as goal

pub gather-requires-clause-order : goal.gather-requires-clause-order
gather-requires-clause-order g c =
    let f = g.N.Nodes.trees c.args.nodes.now in
    let test = g.C.Choice.chosen c.args.choice.now c.args.nodes.now in
    let is : filter test (labels c.as_slice.result.now) ≡ filter test (contained_nodes f c.args.range.0 c.args.range.1) =
    ap (λ xs. filter test (labels xs)) c.as_slice.ensures ∙ ap (filter test) c.in_ok-contained.ensures.nodes in
    subst (IsInOrder f) (sym is) (chosen_in_order test f c.args.range.0 c.args.range.1)
