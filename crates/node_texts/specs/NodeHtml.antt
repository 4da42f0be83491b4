-- The HTML of a node, and of a range.
use Rattle.std.specs.Prelude.{ℕ, List}
use Rattle.node_styles.specs.DomModel.declared.Content.{Content}
use Rattle.node_styles.specs.DomModel.Forest.{Forest, tree_of}
use Rattle.point_order.specs.LiveRange.declared.places.Point.{Point}
use Rattle.page_write.specs.Html.{html_of}
use Rattle.node_texts.specs.Between.{range_contents}

-- the node with all that stands below it; that of the document is the HTML of its children
unfoldable pub node_html : Forest Content → ℕ → List ℕ
node_html f l = html_of (tree_of f l)

-- the contents between two points
unfoldable pub range_html : Forest Content → Point → Point → List ℕ
range_html f start end = html_of (range_contents f start end)
