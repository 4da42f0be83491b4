-- Block nodes, hidden nodes, and whitespace nodes (HTML Editing APIs, "block node", "whitespace
-- node").
use Rattle.std.specs.Prelude.{ℕ, ◌==◌, Bool, true, false, ◌||◌, List, Option, Some, None}
use Rattle.std.specs.List.{list_all}
use Rattle.std.specs.Option.{option_map_or, unwrap_or}
use Rattle.node_arena.specs.DomModel.declared.Content.{Content}
use Rattle.node_arena.specs.DomModel.declared.Content.TheVariants.{Document, Element, Words, Remark}
use Rattle.node_arena.specs.DomModel.Forest.{Forest, parent_of, content_of}
use Rattle.css_value.specs.StyleText.{is_empty}
use Rattle.css_value.specs.declared.values.Display.{Display}
use Rattle.css_value.specs.declared.values.Display.TheVariants as display
use Rattle.css_value.specs.declared.values.WhiteSpace.{WhiteSpace}
use Rattle.css_value.specs.declared.values.WhiteSpace.TheVariants as white_space_values
use Rattle.node_styles.specs.Lineage.{nearest_above, has_in_lineage}
use Rattle.node_styles.specs.OwnStyles.{own_display}
use Rattle.node_styles.specs.Resolved.{white_space}

-- the element's display, which no ancestor changes
unfoldable pub own_or_inline : Content → Display
own_or_inline c = unwrap_or (own_display c) display.Inline

-- inline, inline-block and inline-table stand in a line, and none stands nowhere
abbrev pub is_block_display : Display → Bool
is_block_display display.Block = true
is_block_display display.Inline = false
is_block_display display.InlineBlock = false
is_block_display display.InlineTable = false
is_block_display display.ListItem = true
is_block_display display.Table = true
is_block_display display.NoBox = false

abbrev pub is_no_box : Display → Bool
is_no_box display.NoBox = true
is_no_box _ = false

-- the Document, or an element whose display is that of a block
unfoldable pub is_block_content : Content → Bool
is_block_content Document = true
is_block_content (Element name attributes) =
    is_block_display (own_or_inline (Element name attributes))
is_block_content (Words chars) = false
is_block_content (Remark chars) = false

unfoldable pub is_block : Forest Content → ℕ → Bool
is_block f l = option_map_or is_block_content (content_of f l) false

-- the nearest proper ancestor that is a block
unfoldable pub nearest_block : Forest Content → ℕ → Option ℕ
nearest_block f l = nearest_above is_block_content f l

-- display none
unfoldable pub has_no_box : Content → Bool
has_no_box c = is_no_box (own_or_inline c)

-- the node or an ancestor has display none
unfoldable pub is_hidden : Forest Content → ℕ → Bool
is_hidden f l = has_in_lineage has_no_box f l

-- tab, CR and space; and LF
abbrev pub is_blank : ℕ → Bool
is_blank c = (c == 9) || (c == 13) || (c == 32)

abbrev pub is_blank_or_break : ℕ → Bool
is_blank_or_break c = is_blank c || (c == 10)

-- the characters that white-space lets collapse
unfoldable pub collapses : WhiteSpace → ℕ → Bool
collapses white_space_values.Normal c = is_blank_or_break c
collapses white_space_values.NoWrap c = is_blank_or_break c
collapses white_space_values.PreLine c = is_blank c
collapses white_space_values.Pre c = false
collapses white_space_values.PreWrap c = false

-- Words that is empty, or whose characters all collapse under the parent's white-space
abbrev pub is_whitespace_under : Option ℕ → Forest Content → List ℕ → Bool
is_whitespace_under None f chars = is_empty chars
is_whitespace_under (Some p) f chars =
    is_empty chars || list_all (collapses (white_space f p)) chars

abbrev pub is_whitespace_in : Forest Content → Option ℕ → Content → Bool
is_whitespace_in f parent Document = false
is_whitespace_in f parent (Element name attributes) = false
is_whitespace_in f parent (Words chars) = is_whitespace_under parent f chars
is_whitespace_in f parent (Remark chars) = false

unfoldable pub is_whitespace : Forest Content → ℕ → Bool
is_whitespace f l = option_map_or (is_whitespace_in f (parent_of f l)) (content_of f l) false
