use Rattle.std.proofs.Common.{false, List, ℕ, ap, ◌∙◌}
use Rattle.node_styles.specs.DomModel.Forest.{tree_of}
use Rattle.node_texts.specs.PlainText.{Plain, text_of, plain_text, text_entered, text_left}
use Rattle.node_texts.specs.Walk.{walked}
use Rattle.node_texts.proofs.plain.plain_text.Goals as goal

pub returns : goal.returns
unfolding plain_text text_of
returns g c =
    let trees = tree_of (g.N.Nodes.trees c.args.nodes.now) c.args.node.label in
    let first : Plain → List ℕ = λ plain. plain.0 in
    ap first (c.plain.view_is ∙ c.in_ok-walk.ensures.ok) ∙ ap (λ (chars : List ℕ). (walked text_entered text_left trees (chars, false)).0) c.new.ensures.items
