-- Which value of a property a text is. A text is a list of characters, and a keyword is compared as
-- it is written.
use Rattle.std.specs.Prelude.{ℕ, ◌-◌, ◌==◌, Bool, ◌||◌, if◌then◌else◌, List, [], ◌∷◌, ◌++◌, Option, Some, None, bytes_eq, codes, decimal, length, take, drop}
use Rattle.std.specs.List.{list_any}
use Rattle.css_value.specs.Numbers.{number_up_to}
use Rattle.css_value.specs.SizeKeywords.{smallest, larger, of_keyword}
use Rattle.css_value.specs.declared.values.Display.{Display}
use Rattle.css_value.specs.declared.values.Display.TheVariants as display
use Rattle.css_value.specs.declared.values.WhiteSpace.{WhiteSpace}
use Rattle.css_value.specs.declared.values.WhiteSpace.TheVariants as white_space
use Rattle.css_value.specs.declared.values.FontStyle.{FontStyle}
use Rattle.css_value.specs.declared.values.FontStyle.TheVariants as font_style
use Rattle.css_value.specs.declared.values.TextAlign.{TextAlign}
use Rattle.css_value.specs.declared.values.TextAlign.TheVariants as text_align

unfoldable pub display_of : List ℕ → Option Display
display_of text =
    if bytes_eq (codes "block") text then Some display.Block
    else (if bytes_eq (codes "inline") text then Some display.Inline
    else (if bytes_eq (codes "inline-block") text then Some display.InlineBlock
    else (if bytes_eq (codes "inline-table") text then Some display.InlineTable
    else (if bytes_eq (codes "list-item") text then Some display.ListItem
    else (if bytes_eq (codes "table") text then Some display.Table
    else (if bytes_eq (codes "none") text then Some display.NoBox
    else None))))))

-- its keyword
abbrev pub display_keyword : Display → List ℕ
display_keyword display.Block = codes "block"
display_keyword display.Inline = codes "inline"
display_keyword display.InlineBlock = codes "inline-block"
display_keyword display.InlineTable = codes "inline-table"
display_keyword display.ListItem = codes "list-item"
display_keyword display.Table = codes "table"
display_keyword display.NoBox = codes "none"

unfoldable pub white_space_of : List ℕ → Option WhiteSpace
white_space_of text =
    if bytes_eq (codes "normal") text then Some white_space.Normal
    else (if bytes_eq (codes "nowrap") text then Some white_space.NoWrap
    else (if bytes_eq (codes "pre") text then Some white_space.Pre
    else (if bytes_eq (codes "pre-wrap") text then Some white_space.PreWrap
    else (if bytes_eq (codes "pre-line") text then Some white_space.PreLine
    else None))))

abbrev pub white_space_keyword : WhiteSpace → List ℕ
white_space_keyword white_space.Normal = codes "normal"
white_space_keyword white_space.NoWrap = codes "nowrap"
white_space_keyword white_space.Pre = codes "pre"
white_space_keyword white_space.PreWrap = codes "pre-wrap"
white_space_keyword white_space.PreLine = codes "pre-line"

unfoldable pub font_style_of : List ℕ → Option FontStyle
font_style_of text =
    if bytes_eq (codes "normal") text then Some font_style.Normal
    else (if bytes_eq (codes "italic") text then Some font_style.Italic
    else (if bytes_eq (codes "oblique") text then Some font_style.Oblique
    else None))

abbrev pub font_style_keyword : FontStyle → List ℕ
font_style_keyword font_style.Normal = codes "normal"
font_style_keyword font_style.Italic = codes "italic"
font_style_keyword font_style.Oblique = codes "oblique"

-- start is left and end is right
unfoldable pub text_align_of : List ℕ → Option TextAlign
text_align_of text =
    if bytes_eq (codes "left") text || bytes_eq (codes "start") text then Some text_align.Left
    else (if bytes_eq (codes "right") text || bytes_eq (codes "end") text then Some text_align.Right
    else (if bytes_eq (codes "center") text then Some text_align.Center
    else (if bytes_eq (codes "justify") text then Some text_align.Justify
    else None)))

abbrev pub text_align_keyword : TextAlign → List ℕ
text_align_keyword text_align.Left = codes "left"
text_align_keyword text_align.Right = codes "right"
text_align_keyword text_align.Center = codes "center"
text_align_keyword text_align.Justify = codes "justify"

-- 100 to 900 by hundreds
abbrev pub is_weight : ℕ → Bool
is_weight weight =
    list_any (λ n. n == weight) (100 ∷ 200 ∷ 300 ∷ 400 ∷ 500 ∷ 600 ∷ 700 ∷ 800 ∷ 900 ∷ [])

-- the weight: normal is 400 and bold 700
unfoldable pub font_weight_of : List ℕ → Option ℕ
font_weight_of text =
    if bytes_eq (codes "normal") text || bytes_eq (codes "400") text then Some 400
    else (if bytes_eq (codes "bold") text || bytes_eq (codes "700") text then Some 700
    else (if bytes_eq (codes "100") text then Some 100
    else (if bytes_eq (codes "200") text then Some 200
    else (if bytes_eq (codes "300") text then Some 300
    else (if bytes_eq (codes "500") text then Some 500
    else (if bytes_eq (codes "600") text then Some 600
    else (if bytes_eq (codes "800") text then Some 800
    else (if bytes_eq (codes "900") text then Some 900
    else None))))))))

-- the pixels of a keyword
abbrev pub keyword_size : List ℕ → Option ℕ
keyword_size text = of_keyword (λ r. r.pixels) (smallest ∷ larger) text

-- a size in pixels as `Npx`
unfoldable pub pixels_text : ℕ → List ℕ
pixels_text px = decimal px ++ codes "px"

-- the size in pixels: `Npx` to 9999 without leading zeros, or a keyword
unfoldable pub font_size_of : List ℕ → Option ℕ
font_size_of text =
    if bytes_eq (codes "px") (drop (length text - 2) text) then
    number_up_to 9999 (take (length text - 2) text)
    else keyword_size text
