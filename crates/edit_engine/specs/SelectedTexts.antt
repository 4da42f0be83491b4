-- The HTML and the plain text of what is selected, from the earlier point to the later one.
use Rattle.std.specs.Prelude.{ℕ, List, Option}
use Rattle.std.specs.Option.{option_map}
use Rattle.inline_value.specs.EditActions.ActiveRange.{start_of, end_of}
use Rattle.edit_model.specs.State.{State}
use Rattle.node_texts.specs.NodeHtml.{range_html}
use Rattle.node_texts.specs.PlainText.{range_text}

unfoldable pub selected_html : State → Option (List ℕ)
selected_html s =
    option_map (λ pair. range_html s.trees (start_of s.trees pair) (end_of s.trees pair))
    s.points.selection

unfoldable pub selected_text : State → Option (List ℕ)
selected_text s =
    option_map (λ pair. range_text s.trees (start_of s.trees pair) (end_of s.trees pair))
    s.points.selection
