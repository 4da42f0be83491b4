-- What the defaults by names are, property by property.
use Rattle.std.proofs.Common.{◌≡◌, ℕ, Bool, true, false, cond, List, [], ◌∷◌, Option, Some, None, refl, codes}
use Rattle.std.specs.List.{find}
use Rattle.std.specs.Option.{option_map, option_and_then, is_some}
use Rattle.node_arena.specs.DomModel.declared.Content.{Content}
use Rattle.node_arena.specs.DomModel.Contents.{name_in}
use Rattle.css_value.specs.declared.values.FontStyle.TheVariants as font_style
use Rattle.css_value.specs.declared.values.TextAlign.TheVariants as text_align
use Rattle.css_value.specs.Colours.{opaque_colour, colour_of, named_colour, hex_colour, rgb_colour, channel}
use Rattle.css_value.specs.Numbers.{number_up_to}
use Rattle.css_value.specs.TextDecoration.{text_decoration_of, words, are_lines, lines_in, has_line}
use Rattle.css_value.specs.Values.{font_style_of, font_weight_of, font_size_of, text_align_of}
use Rattle.style_table.specs.declared.Property.{Property}
use Rattle.style_table.specs.declared.Property.TheVariants as property
use Rattle.style_table.specs.DefaultStyles.{DefaultRow, has_name, value_of, is_link, default_of, default_font_weight, font_weight_rows, default_font_style, font_style_rows, default_font_family, font_family_rows, default_font_size, font_size_rows, default_color, default_background_color, background_color_rows, default_text_decoration, text_decoration_rows, default_text_align, text_align_rows}
use Rattle.node_styles.specs.OwnStyles.{attribute, defaulted, family_of, valid_decoration}
use Rattle.node_styles.specs.TableTexts.{pixels_of, lines_of}

module _ {V : Type 0} (read given : List ℕ → Option V) where
  -- the two read each row alike
  abbrev Alike : List DefaultRow → Type 0
  Alike [] = Unit {0}
  Alike (row ∷ rows) = (read row.0 ≡ given row.0) × Alike rows

  alike_value : (rows : List DefaultRow) → Alike rows → (name : List ℕ) → option_and_then read (value_of rows name) ≡ option_and_then given (value_of rows name)
  unfolding value_of
  alike_value [] alike name = refl
  alike_value (row ∷ rows) alike name =
      elim (has_name name row) as (λ v. option_and_then read (option_map (λ (r : DefaultRow). r.0) (cond v (Some row) (find (has_name name) rows))) ≡ option_and_then given (option_map (λ (r : DefaultRow). r.0) (cond v (Some row) (find (has_name name) rows)))) [
        | true ↦ alike.0
        | false ↦ alike_value rows alike.1 name
      ]

  -- of all names, of all contents
  alike_content : (p : Property) → ((name : List ℕ) (has_href : Bool) → option_and_then read (default_of name has_href p) ≡ option_and_then given (default_of name has_href p)) → (c : Content) → option_and_then read (defaulted c p) ≡ option_and_then given (defaulted c p)
  unfolding defaulted
  alike_content p alike c = by_name (name_in c)
    where
      by_name : (o : Option (List ℕ)) → option_and_then read (option_and_then (λ name. default_of name (is_some (attribute c (codes "href"))) p) o) ≡ option_and_then given (option_and_then (λ name. default_of name (is_some (attribute c (codes "href"))) p) o)
      by_name None = refl
      by_name (Some name) = alike name (is_some (attribute c (codes "href")))

abbrev always : {V : Type 0} → V → List ℕ → Option V
always v text = Some v

pub weight_default : (c : Content) → option_and_then font_weight_of (defaulted c property.FontWeight) ≡ option_and_then (always 700) (defaulted c property.FontWeight)
unfolding default_of default_font_weight font_weight_rows font_weight_of
weight_default c = alike_content font_weight_of (always 700) property.FontWeight (λ name h. alike_value font_weight_of (always 700) font_weight_rows (refl, tt) name) c

pub style_default : (c : Content) → option_and_then font_style_of (defaulted c property.FontStyle) ≡ option_and_then (always font_style.Italic) (defaulted c property.FontStyle)
unfolding default_of default_font_style font_style_rows font_style_of
style_default c = alike_content font_style_of (always font_style.Italic) property.FontStyle (λ name h. alike_value font_style_of (always font_style.Italic) font_style_rows (refl, tt) name) c

pub family_default : (c : Content) → option_and_then family_of (defaulted c property.FontFamily) ≡ option_and_then (always (codes "monospace")) (defaulted c property.FontFamily)
unfolding default_of default_font_family font_family_rows
family_default c = alike_content family_of (always (codes "monospace")) property.FontFamily (λ name h. alike_value family_of (always (codes "monospace")) font_family_rows (refl, tt) name) c

pub size_default : (c : Content) → option_and_then font_size_of (defaulted c property.FontSize) ≡ option_and_then pixels_of (defaulted c property.FontSize)
unfolding default_of default_font_size font_size_rows font_size_of number_up_to
size_default c = alike_content font_size_of pixels_of property.FontSize (λ name h. alike_value font_size_of pixels_of font_size_rows (refl, (refl, (refl, (refl, (refl, (refl, (refl, (refl, tt)))))))) name) c

pub background_default : (c : Content) → option_and_then colour_of (defaulted c property.BackgroundColor) ≡ option_and_then (always (opaque_colour 255 255 0)) (defaulted c property.BackgroundColor)
unfolding default_of default_background_color background_color_rows colour_of named_colour hex_colour rgb_colour channel number_up_to
background_default c = alike_content colour_of (always (opaque_colour 255 255 0)) property.BackgroundColor (λ name h. alike_value colour_of (always (opaque_colour 255 255 0)) background_color_rows (refl, tt) name) c

pub align_default : (c : Content) → option_and_then text_align_of (defaulted c property.TextAlign) ≡ option_and_then (always text_align.Center) (defaulted c property.TextAlign)
unfolding default_of default_text_align text_align_rows text_align_of
align_default c = alike_content text_align_of (always text_align.Center) property.TextAlign (λ name h. alike_value text_align_of (always text_align.Center) text_align_rows (refl, tt) name) c

blue_link : colour_of (codes "rgb(0, 0, 238)") ≡ Some (opaque_colour 0 0 238)
unfolding colour_of named_colour hex_colour rgb_colour channel number_up_to
blue_link = refl

pub color_default : (c : Content) → option_and_then colour_of (defaulted c property.Color) ≡ option_and_then (always (opaque_colour 0 0 238)) (defaulted c property.Color)
unfolding default_of default_color
color_default c = alike_content colour_of (always (opaque_colour 0 0 238)) property.Color (λ name h. by_link (is_link name h)) c
  where
    by_link : (v : Bool) → option_and_then colour_of (cond v (Some (codes "rgb(0, 0, 238)")) None) ≡ option_and_then (always (opaque_colour 0 0 238)) (cond v (Some (codes "rgb(0, 0, 238)")) None)
    by_link true = blue_link
    by_link false = refl

underlined : text_decoration_of (codes "underline") ≡ lines_of (codes "underline")
unfolding text_decoration_of words are_lines lines_in has_line
underlined = refl

pub decoration_text_default : (c : Content) → option_and_then valid_decoration (defaulted c property.TextDecoration) ≡ option_and_then Some (defaulted c property.TextDecoration)
unfolding default_of default_text_decoration text_decoration_rows valid_decoration text_decoration_of words are_lines lines_in has_line
decoration_text_default c = alike_content valid_decoration Some property.TextDecoration (λ name h. by_link name (is_link name h)) c
  where
    by_link : (name : List ℕ) (v : Bool) → option_and_then valid_decoration (cond v (Some (codes "underline")) (value_of text_decoration_rows name)) ≡ option_and_then Some (cond v (Some (codes "underline")) (value_of text_decoration_rows name))
    by_link name true = refl
    by_link name false = alike_value valid_decoration Some text_decoration_rows (refl, (refl, tt)) name

struck : text_decoration_of (codes "line-through") ≡ lines_of (codes "line-through")
unfolding text_decoration_of words are_lines lines_in has_line
struck = refl

pub decoration_default : (c : Content) → option_and_then text_decoration_of (defaulted c property.TextDecoration) ≡ option_and_then lines_of (defaulted c property.TextDecoration)
unfolding default_of default_text_decoration text_decoration_rows
decoration_default c = alike_content text_decoration_of lines_of property.TextDecoration (λ name h. by_link name (is_link name h)) c
  where
    by_link : (name : List ℕ) (v : Bool) → option_and_then text_decoration_of (cond v (Some (codes "underline")) (value_of text_decoration_rows name)) ≡ option_and_then lines_of (cond v (Some (codes "underline")) (value_of text_decoration_rows name))
    by_link name true = underlined
    by_link name false = alike_value text_decoration_of lines_of text_decoration_rows (underlined, (struck, tt)) name
