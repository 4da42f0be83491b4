-- The values that an element itself gives a property: by its style, by a hint of an attribute, or
-- by its name.
use Rattle.std.specs.Prelude.{ℕ, Bool, false, if◌then◌else◌, List, [], ◌∷◌, Option, Some, None, is_some, map, bytes_eq, codes}
use Rattle.std.specs.Char.{to_ascii_lowercase}
use Rattle.std.specs.Option.{option_map, option_map_or, option_and_then, option_or}
use Rattle.node_arena.specs.DomModel.declared.Content.{Content}
use Rattle.node_arena.specs.DomModel.AttributeList as attributes
use Rattle.node_arena.specs.DomModel.Contents.{name_in, attributes_in}
use Rattle.css_value.specs.declared.colours.Colour.{Colour}
use Rattle.css_value.specs.declared.values.Display.{Display}
use Rattle.css_value.specs.declared.values.WhiteSpace.{WhiteSpace}
use Rattle.css_value.specs.declared.values.FontStyle.{FontStyle}
use Rattle.css_value.specs.declared.values.TextAlign.{TextAlign}
use Rattle.css_value.specs.declared.values.TextAlign.TheVariants as text_align
use Rattle.css_value.specs.StyleText.{is_empty}
use Rattle.css_value.specs.DeclarationList as declarations
use Rattle.css_value.specs.declared.decoration.TextDecoration.{TextDecoration}
use Rattle.css_value.specs.Colours.{colour_of}
use Rattle.css_value.specs.TextDecoration.{text_decoration_of}
use Rattle.css_value.specs.Values.{display_of, white_space_of, font_style_of, font_weight_of, font_size_of, text_align_of}
use Rattle.css_value.specs.HtmlNames.ElementNames.{is_one_of}
use Rattle.style_table.specs.declared.Property.{Property}
use Rattle.style_table.specs.declared.Property.TheVariants as property
use Rattle.style_table.specs.DefaultStyles.{default_of}
use Rattle.node_styles.specs.LegacySizes.{legacy_size_of, pixels_of}

-- the value of an attribute of an element
unfoldable pub attribute : Content → List ℕ → Option (List ℕ)
attribute c name = option_and_then (λ list. attributes.value_of list name) (attributes_in c)

-- the element has this name
unfoldable pub is_named : List ℕ → Content → Bool
is_named name c = option_map_or (λ own. bytes_eq own name) (name_in c) false

-- what the style attribute declares of a property, valid or not
unfoldable pub declared : Content → List ℕ → Option (List ℕ)
declared c name =
    option_and_then (λ text. declarations.value_of (declarations.declarations_in text) name)
    (attribute c (codes "style"))

-- the default by the element's name
unfoldable pub defaulted : Content → Property → Option (List ℕ)
defaulted c property =
    option_and_then (λ name. default_of name (is_some (attribute c (codes "href"))) property)
    (name_in c)

-- what a font's attribute gives
abbrev pub font_attribute : Content → List ℕ → Option (List ℕ)
font_attribute c name = if is_named (codes "font") c then attribute c name else None

-- a text that isn't empty
abbrev pub family_of : List ℕ → Option (List ℕ)
family_of text = if is_empty text then None else Some text

-- the elements whose attribute align is a hint
unfoldable pub aligned_names : List (List ℕ)
aligned_names =
    codes "div"
    ∷ codes "p"
    ∷ codes "h1"
    ∷ codes "h2"
    ∷ codes "h3"
    ∷ codes "h4"
    ∷ codes "h5"
    ∷ codes "h6"
    ∷ codes "td"
    ∷ codes "th"
    ∷ []

-- the alignment of a value of the attribute align, in any case
unfoldable pub hinted_alignment : List ℕ → Option TextAlign
hinted_alignment text =
    let lowered = map to_ascii_lowercase text in
    if bytes_eq (codes "left") lowered then Some text_align.Left
    else (if bytes_eq (codes "right") lowered then Some text_align.Right
    else (if bytes_eq (codes "center") lowered then Some text_align.Center
    else (if bytes_eq (codes "justify") lowered then Some text_align.Justify
    else None)))

-- the hints
unfoldable pub color_hint : Content → Option Colour
color_hint c = option_and_then colour_of (font_attribute c (codes "color"))

unfoldable pub family_hint : Content → Option (List ℕ)
family_hint c = option_and_then family_of (font_attribute c (codes "face"))

unfoldable pub size_hint : Content → Option ℕ
size_hint c =
    option_map pixels_of (option_and_then legacy_size_of (font_attribute c (codes "size")))

unfoldable pub align_hint : Content → Option TextAlign
align_hint c =
    if option_map_or (is_one_of aligned_names) (name_in c) false
    then option_and_then hinted_alignment (attribute c (codes "align"))
    else None

-- the valid value of the style, else the hint, else the default
abbrev pub own : {V : Type 0} → (List ℕ → Option V) → List ℕ → Option V → Property → Content
    → Option V
own read name hint p c = option_or (option_and_then read (declared c name))
    (option_or hint (option_and_then read (defaulted c p)))

unfoldable pub own_display : Content → Option Display
own_display c = own display_of (codes "display") None property.Display c

unfoldable pub own_white_space : Content → Option WhiteSpace
own_white_space c = own white_space_of (codes "white-space") None property.WhiteSpace c

unfoldable pub own_font_weight : Content → Option ℕ
own_font_weight c = own font_weight_of (codes "font-weight") None property.FontWeight c

unfoldable pub own_font_style : Content → Option FontStyle
own_font_style c = own font_style_of (codes "font-style") None property.FontStyle c

unfoldable pub own_font_family : Content → Option (List ℕ)
own_font_family c = own family_of (codes "font-family") (family_hint c) property.FontFamily c

unfoldable pub own_font_size : Content → Option ℕ
own_font_size c = own font_size_of (codes "font-size") (size_hint c) property.FontSize c

unfoldable pub own_color : Content → Option Colour
own_color c = own colour_of (codes "color") (color_hint c) property.Color c

unfoldable pub own_background_color : Content → Option Colour
own_background_color c = own colour_of (codes "background-color") None property.BackgroundColor c

unfoldable pub own_text_decoration : Content → Option TextDecoration
own_text_decoration c =
    own text_decoration_of (codes "text-decoration") None property.TextDecoration c

-- a valid value of text-decoration, as it is written
unfoldable pub valid_decoration : List ℕ → Option (List ℕ)
valid_decoration text = if is_some (text_decoration_of text) then Some text else None

unfoldable pub own_decoration_text : Content → Option (List ℕ)
own_decoration_text c =
    own valid_decoration (codes "text-decoration") None property.TextDecoration c

unfoldable pub own_text_align : Content → Option TextAlign
own_text_align c = own text_align_of (codes "text-align") (align_hint c) property.TextAlign c
