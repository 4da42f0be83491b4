-- The resolved value of a property: the element's own value, else, where the property is inherited,
-- that of the nearest ancestor that has one, else the initial value.
use Rattle.std.specs.Prelude.{ℕ, List, Option, is_some, codes, decimal}
use Rattle.std.specs.Option.{option_and_then, unwrap_or}
use Rattle.node_arena.specs.DomModel.declared.Content.{Content}
use Rattle.node_arena.specs.DomModel.Forest.{Forest, content_of}
use Rattle.css_value.specs.declared.colours.Colour.{Colour}
use Rattle.css_value.specs.declared.decoration.TextDecoration.{TextDecoration}
use Rattle.css_value.specs.Colours.{opaque_colour, transparent, colour_text}
use Rattle.css_value.specs.TextDecoration.{no_lines}
use Rattle.css_value.specs.Values.{display_keyword, white_space_keyword, font_style_keyword, text_align_keyword, pixels_text}
use Rattle.style_table.specs.declared.Property.{Property}
use Rattle.style_table.specs.declared.Property.TheVariants as property
use Rattle.css_value.specs.declared.values.Display.{Display}
use Rattle.css_value.specs.declared.values.Display.TheVariants as display_values
use Rattle.css_value.specs.declared.values.WhiteSpace.{WhiteSpace}
use Rattle.css_value.specs.declared.values.WhiteSpace.TheVariants as white_space_values
use Rattle.css_value.specs.declared.values.FontStyle.{FontStyle}
use Rattle.css_value.specs.declared.values.FontStyle.TheVariants as font_style_values
use Rattle.css_value.specs.declared.values.TextAlign.{TextAlign}
use Rattle.css_value.specs.declared.values.TextAlign.TheVariants as text_align_values
use Rattle.node_styles.specs.Lineage.{nearest}
use Rattle.node_styles.specs.OwnStyles.{own_display, own_white_space, own_font_weight, own_font_style, own_font_family, own_font_size, own_color, own_background_color, own_text_decoration, own_decoration_text, own_text_align}

-- a property that isn't inherited
abbrev pub kept : {V : Type 0} → (Content → Option V) → V → Forest Content → ℕ → V
kept own initial f l = unwrap_or (option_and_then own (content_of f l)) initial

-- a property that is: the own value of the nearest inclusive ancestor that has one
abbrev pub inherited : {V : Type 0} → (Content → Option V) → V → Forest Content → ℕ → V
inherited own initial f l = unwrap_or (option_and_then (λ k. own k.content)
    (nearest (λ c. is_some (own c)) f l)) initial

unfoldable pub display : Forest Content → ℕ → Display
display f l = kept own_display display_values.Inline f l

unfoldable pub background_color : Forest Content → ℕ → Colour
background_color f l = kept own_background_color transparent f l

unfoldable pub text_decoration : Forest Content → ℕ → TextDecoration
text_decoration f l = kept own_text_decoration no_lines f l

unfoldable pub white_space : Forest Content → ℕ → WhiteSpace
white_space f l = inherited own_white_space white_space_values.Normal f l

unfoldable pub font_weight : Forest Content → ℕ → ℕ
font_weight f l = inherited own_font_weight 400 f l

unfoldable pub font_style : Forest Content → ℕ → FontStyle
font_style f l = inherited own_font_style font_style_values.Normal f l

unfoldable pub font_family : Forest Content → ℕ → List ℕ
font_family f l = inherited own_font_family (codes "serif") f l

unfoldable pub font_size : Forest Content → ℕ → ℕ
font_size f l = inherited own_font_size 16 f l

unfoldable pub color : Forest Content → ℕ → Colour
color f l = inherited own_color (opaque_colour 0 0 0) f l

unfoldable pub text_align : Forest Content → ℕ → TextAlign
text_align f l = inherited own_text_align text_align_values.Left f l

-- the value of text-decoration as it is written
unfoldable pub decoration_text : Forest Content → ℕ → List ℕ
decoration_text f l = kept own_decoration_text (codes "none") f l

-- the value as a text: a weight as a number, a size as `Npx`, a colour by its components
unfoldable pub resolved : Forest Content → ℕ → Property → List ℕ
resolved f l property.Display = display_keyword (display f l)
resolved f l property.WhiteSpace = white_space_keyword (white_space f l)
resolved f l property.FontWeight = decimal (font_weight f l)
resolved f l property.FontStyle = font_style_keyword (font_style f l)
resolved f l property.FontFamily = font_family f l
resolved f l property.FontSize = pixels_text (font_size f l)
resolved f l property.Color = colour_text (color f l)
resolved f l property.BackgroundColor = colour_text (background_color f l)
resolved f l property.TextDecoration = decoration_text f l
resolved f l property.TextAlign = text_align_keyword (text_align f l)
