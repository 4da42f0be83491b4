use Rattle.std.proofs.Common.{◌≡◌, ℕ, Option, Some, sym, subst}
use Rattle.std.specs.Option.{option_and_then}
use Rattle.node_arena.specs.DomModel.Forest.{parent_of}
use Rattle.node_arena.specs.Reads.{Names}
use Rattle.node_styles.specs.Blocks.{is_block_content, nearest_block}
use Rattle.node_styles.specs.Lineage.{nearest_label}
use Rattle.node_styles.proofs.Finding.{found_named}
use Rattle.node_styles.proofs.blocks.nearest_block.Goals as goal

pub returns : goal.returns
unfolding nearest_block
returns g c =
    let f = g.N.Nodes.trees c.args.nodes.now in
    let holds = g.N.Nodes.holds c.args.nodes.now in
    let above : parent_of f c.args.node.label ≡ Some c.in_ok-parent.parent.label = sym c.in_ok-parent.ensures.is in
    subst (λ (o : Option ℕ). Names holds c.nearest.result (option_and_then (λ p. nearest_label is_block_content f p) o)) (sym above)
    (found_named is_block_content holds f c.in_ok-parent.parent.label c.nearest.result c.nearest.ensures.found c.nearest.ensures.none)
