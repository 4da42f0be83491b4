-- The styles that elements have where nothing sets one. Each table stands for one property: a row
-- has the value and the names of the elements that have it. Names and values are lists of bytes.
use Rattle.std.specs.Prelude.{ℕ, Bool, List, [], ◌∷◌, Option, codes, find, ◌&&◌, Some, None, if◌then◌else◌}
use Rattle.std.specs.List.{list_any}
use Rattle.std.specs.Option.{option_map}
use Rattle.std.specs.Str.{bytes_eq}
use Rattle.style_table.specs.declared.Property.{Property}
use Rattle.style_table.specs.declared.Property.TheVariants as property

-- a value, and the elements that have it by default
abbrev pub DefaultRow : Type 0
DefaultRow = List ℕ × List (List ℕ)

-- the name stands in the row
abbrev pub has_name : List ℕ → DefaultRow → Bool
has_name name row = list_any (λ known. bytes_eq known name) row.1

unfoldable pub display_rows : List DefaultRow
display_rows = (
  codes "block",
  (codes "p" ∷ codes "div" ∷ codes "body" ∷ codes "html" ∷ codes "h1" ∷ codes "h2"
      ∷ codes "h3" ∷ codes "ul" ∷ codes "ol" ∷ codes "blockquote" ∷ codes "address"
      ∷ codes "article" ∷ codes "aside" ∷ codes "center" ∷ codes "dd" ∷ codes "details"
      ∷ codes "dir" ∷ codes "dl" ∷ codes "dt" ∷ codes "fieldset" ∷ codes "figcaption"
      ∷ codes "figure" ∷ codes "footer" ∷ codes "form" ∷ codes "h4" ∷ codes "h5" ∷ codes "h6"
      ∷ codes "header" ∷ codes "hgroup" ∷ codes "hr" ∷ codes "legend" ∷ codes "listing"
      ∷ codes "main" ∷ codes "menu" ∷ codes "nav" ∷ codes "pre" ∷ codes "section"
      ∷ codes "summary" ∷ []),
)
    ∷ (
      codes "block",
      (codes "caption" ∷ codes "col" ∷ codes "colgroup" ∷ codes "tbody" ∷ codes "td"
          ∷ codes "tfoot" ∷ codes "th" ∷ codes "thead" ∷ codes "tr" ∷ []),
    )
    ∷ (codes "list-item", (codes "li" ∷ []))
    ∷ (codes "table", (codes "table" ∷ []))
    ∷ (codes "inline-block", (codes "button" ∷ codes "input" ∷ codes "select" ∷ []))
    ∷ (
      codes "none",
      (codes "area" ∷ codes "base" ∷ codes "head" ∷ codes "link" ∷ codes "meta" ∷ codes "param"
          ∷ codes "source" ∷ codes "track" ∷ []),
    )
    ∷ []

unfoldable pub white_space_rows : List DefaultRow
white_space_rows =
    (codes "pre", (codes "listing" ∷ codes "pre" ∷ []))
    ∷ (codes "nowrap", (codes "nobr" ∷ []))
    ∷ []

unfoldable pub font_weight_rows : List DefaultRow
font_weight_rows = (
  codes "700",
  (codes "b" ∷ codes "strong" ∷ codes "th" ∷ codes "h1" ∷ codes "h2" ∷ codes "h3" ∷ codes "h4"
      ∷ codes "h5" ∷ codes "h6" ∷ []),
)
    ∷ []

unfoldable pub font_style_rows : List DefaultRow
font_style_rows = (
  codes "italic",
  (codes "address" ∷ codes "cite" ∷ codes "dfn" ∷ codes "em" ∷ codes "i" ∷ codes "var" ∷ []),
)
    ∷ []

unfoldable pub font_family_rows : List DefaultRow
font_family_rows = (
  codes "monospace",
  (codes "code" ∷ codes "kbd" ∷ codes "listing" ∷ codes "pre" ∷ codes "samp" ∷ codes "tt"
      ∷ []),
)
    ∷ []

unfoldable pub font_size_rows : List DefaultRow
font_size_rows =
    (codes "32px", (codes "h1" ∷ []))
    ∷ (codes "24px", (codes "h2" ∷ []))
    ∷ (codes "19px", (codes "h3" ∷ []))
    ∷ (codes "16px", (codes "h4" ∷ []))
    ∷ (codes "13px", (codes "h5" ∷ []))
    ∷ (codes "11px", (codes "h6" ∷ []))
    ∷ (codes "18px", (codes "big" ∷ []))
    ∷ (codes "13px", (codes "small" ∷ []))
    ∷ []

unfoldable pub background_color_rows : List DefaultRow
background_color_rows =
    (codes "rgb(255, 255, 0)", (codes "mark" ∷ []))
    ∷ []

unfoldable pub text_decoration_rows : List DefaultRow
text_decoration_rows =
    (codes "underline", (codes "u" ∷ codes "ins" ∷ []))
    ∷ (codes "line-through", (codes "s" ∷ codes "strike" ∷ codes "del" ∷ []))
    ∷ []

unfoldable pub text_align_rows : List DefaultRow
text_align_rows =
    (codes "center", (codes "center" ∷ codes "caption" ∷ codes "th" ∷ []))
    ∷ []

-- what an a with the attribute href has besides
unfoldable pub link_names : List (List ℕ)
link_names = codes "a" ∷ []

-- the value of the first row that has the name
unfoldable pub value_of : List DefaultRow → List ℕ → Option (List ℕ)
value_of rows name = option_map (λ row. row.0) (find (has_name name) rows)

abbrev pub is_link : List ℕ → Bool → Bool
is_link name has_href = has_href && list_any (λ known. bytes_eq known name) link_names

unfoldable pub default_display : List ℕ → Option (List ℕ)
default_display name = value_of display_rows name

unfoldable pub default_white_space : List ℕ → Option (List ℕ)
default_white_space name = value_of white_space_rows name

unfoldable pub default_font_weight : List ℕ → Option (List ℕ)
default_font_weight name = value_of font_weight_rows name

unfoldable pub default_font_style : List ℕ → Option (List ℕ)
default_font_style name = value_of font_style_rows name

unfoldable pub default_font_family : List ℕ → Option (List ℕ)
default_font_family name = value_of font_family_rows name

unfoldable pub default_font_size : List ℕ → Option (List ℕ)
default_font_size name = value_of font_size_rows name

unfoldable pub default_color : List ℕ → Bool → Option (List ℕ)
default_color name has_href = if is_link name has_href then Some (codes "rgb(0, 0, 238)") else None

unfoldable pub default_background_color : List ℕ → Option (List ℕ)
default_background_color name = value_of background_color_rows name

unfoldable pub default_text_decoration : List ℕ → Bool → Option (List ℕ)
default_text_decoration name has_href =
    if is_link name has_href then Some (codes "underline") else value_of text_decoration_rows name

unfoldable pub default_text_align : List ℕ → Option (List ℕ)
default_text_align name = value_of text_align_rows name

-- the default of a property for an element of this name; has_href says whether the element has the
-- attribute href
unfoldable pub default_of : List ℕ → Bool → Property → Option (List ℕ)
default_of name has_href property.Display = default_display name
default_of name has_href property.WhiteSpace = default_white_space name
default_of name has_href property.FontWeight = default_font_weight name
default_of name has_href property.FontStyle = default_font_style name
default_of name has_href property.FontFamily = default_font_family name
default_of name has_href property.FontSize = default_font_size name
default_of name has_href property.Color = default_color name has_href
default_of name has_href property.BackgroundColor = default_background_color name
default_of name has_href property.TextDecoration = default_text_decoration name has_href
default_of name has_href property.TextAlign = default_text_align name
