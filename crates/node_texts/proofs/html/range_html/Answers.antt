use Rattle.std.proofs.Common.{◌++◌, ap, ◌∙◌}
use Rattle.page_write.specs.Html.{html_of}
use Rattle.node_texts.specs.Between.{range_contents}
use Rattle.node_texts.specs.NodeHtml.{range_html}
use Rattle.node_texts.proofs.Folding.{html_walked}
use Rattle.node_texts.proofs.html.range_html.Goals as goal

pub returns : goal.returns
unfolding range_html
returns g c =
    let trees = range_contents (g.N.Nodes.trees c.args.nodes.now) c.args.range.0 c.args.range.1 in
    c.writer.view_is ∙ c.in_ok-walk_range.ensures.ok ∙ html_walked trees _ ∙ ap (λ bytes. bytes ++ html_of trees) c.new.ensures.items
