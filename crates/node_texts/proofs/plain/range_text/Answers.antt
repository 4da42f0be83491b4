use Rattle.std.proofs.Common.{false, List, ℕ, ap, ◌∙◌}
use Rattle.node_texts.specs.Between.{range_contents}
use Rattle.node_texts.specs.PlainText.{Plain, text_of, range_text, text_entered, text_left}
use Rattle.node_texts.specs.Walk.{walked}
use Rattle.node_texts.proofs.plain.range_text.Goals as goal

pub returns : goal.returns
unfolding range_text text_of
returns g c =
    let trees = range_contents (g.N.Nodes.trees c.args.nodes.now) c.args.range.0 c.args.range.1 in
    let first : Plain → List ℕ = λ plain. plain.0 in
    ap first (c.plain.view_is ∙ c.in_ok-walk_range.ensures.ok) ∙ ap (λ (chars : List ℕ). (walked text_entered text_left trees (chars, false)).0) c.new.ensures.items
