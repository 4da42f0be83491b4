-- How a node is aligned (HTML Editing APIs, "alignment value").
use Rattle.std.specs.Prelude.{ℕ, Bool, not, ◌&&◌, ◌||◌, List}
use Rattle.std.specs.Option.{option_map_or}
use Rattle.node_styles.specs.DomModel.declared.Content.{Content}
use Rattle.node_styles.specs.DomModel.Contents.{is_element}
use Rattle.node_styles.specs.DomModel.Forest.{Forest}
use Rattle.node_styles.specs.CssValue.declared.values.TextAlign.{TextAlign}
use Rattle.node_styles.specs.CssValue.declared.values.TextAlign.TheVariants as text_align_values
use Rattle.node_styles.specs.CssValue.Values.{text_align_keyword}
use Rattle.node_styles.specs.Blocks.{own_or_inline, has_no_box}
use Rattle.node_styles.specs.Lineage.{nearest_label}
use Rattle.node_styles.specs.Resolved.{text_align}
use Rattle.command_value.specs.SpecifiedValues.{is_inline_display}

-- an element whose display is neither inline nor none
unfoldable pub has_own_box : Content → Bool
has_own_box c = is_element c && not (is_inline_display (own_or_inline c) || has_no_box c)

-- the text-align of the nearest element in a box of its own; left where there is none
unfoldable pub alignment : Forest Content → ℕ → TextAlign
alignment f l =
    option_map_or (text_align f) (nearest_label has_own_box f l) text_align_values.Left

unfoldable pub alignment_value : Forest Content → ℕ → List ℕ
alignment_value f l = text_align_keyword (alignment f l)
