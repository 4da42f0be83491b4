use Rattle.std.proofs.Common.{◌++◌, ap, ◌∙◌}
use Rattle.node_styles.specs.DomModel.Forest.{tree_of}
use Rattle.page_write.specs.Html.{html_of}
use Rattle.node_texts.specs.NodeHtml.{node_html}
use Rattle.node_texts.proofs.Folding.{html_walked}
use Rattle.node_texts.proofs.html.node_html.Goals as goal

pub returns : goal.returns
unfolding node_html
returns g c =
    let f = g.N.Nodes.trees c.args.nodes.now in
    c.writer.view_is ∙ c.in_ok-walk.ensures.ok ∙ html_walked (tree_of f c.args.node.label) _ ∙ ap (λ bytes. bytes ++ html_of (tree_of f c.args.node.label)) c.new.ensures.items
