use Rattle.std.proofs.Common.{◌++◌, List, ℕ, ap, ◌∙◌}
use Rattle.point_order.specs.LiveRange.declared.places.Point.{Point}
use Rattle.node_styles.specs.DomModel.Forest.{tree_of}
use Rattle.node_texts.specs.Occurrences.{occurrences, found_in}
use Rattle.node_texts.proofs.Folding.{found_walked}
use Rattle.node_texts.proofs.occurrences.find.Goals as goal

pub returns : goal.returns
unfolding found_in
returns g c =
    let trees = tree_of (g.N.Nodes.trees c.args.nodes.now) c.args.node.label in
    let second : (List ℕ × List Point) → List Point = λ found. found.1 in
    ap second (c.finder.view_is ∙ c.in_ok-walk.ensures.ok ∙ found_walked trees c.args.wanted.now c.new.result.items)
    ∙ ap (λ points. points ++ occurrences c.args.wanted.now trees) c.new.ensures.items
