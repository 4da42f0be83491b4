-- Which colour a text is. A text is a list of characters.
use Rattle.std.specs.Prelude.{ℕ, ◌+◌, ◌-◌, ◌*◌, ◌==◌, true, false, if◌then◌else◌, List, [], ◌∷◌, ◌++◌, Option, Some, None, bytes_eq, codes, decimal}
use Rattle.std.specs.Char.{to_ascii_lowercase, is_ascii_digit, is_ascii_hexdigit}
use Rattle.std.specs.List.{list_all}
use Rattle.std.specs.Option.{option_map}
use Rattle.css_value.specs.declared.colours.Colour.{Colour}
use Rattle.css_value.specs.StyleText.{lowered}
use Rattle.css_value.specs.Numbers.{number_up_to}

abbrev pub opaque_colour : ℕ → ℕ → ℕ → Colour
opaque_colour red green blue = record { red = red; green = green; blue = blue; clear = false }

-- the components of `rgba(0, 0, 0, 0)`
abbrev pub transparent : Colour
transparent = record { red = 0; green = 0; blue = 0; clear = true }

-- the basic colour keywords, and orange
abbrev pub named_colours : List (List ℕ × Colour)
named_colours =
    (codes "aqua", opaque_colour 0 255 255)
    ∷ (codes "black", opaque_colour 0 0 0)
    ∷ (codes "blue", opaque_colour 0 0 255)
    ∷ (codes "fuchsia", opaque_colour 255 0 255)
    ∷ (codes "gray", opaque_colour 128 128 128)
    ∷ (codes "green", opaque_colour 0 128 0)
    ∷ (codes "lime", opaque_colour 0 255 0)
    ∷ (codes "maroon", opaque_colour 128 0 0)
    ∷ (codes "navy", opaque_colour 0 0 128)
    ∷ (codes "olive", opaque_colour 128 128 0)
    ∷ (codes "orange", opaque_colour 255 165 0)
    ∷ (codes "purple", opaque_colour 128 0 128)
    ∷ (codes "red", opaque_colour 255 0 0)
    ∷ (codes "silver", opaque_colour 192 192 192)
    ∷ (codes "teal", opaque_colour 0 128 128)
    ∷ (codes "white", opaque_colour 255 255 255)
    ∷ (codes "yellow", opaque_colour 255 255 0)
    ∷ []

-- the colour of the first row of this name
abbrev pub colour_in : List (List ℕ × Colour) → List ℕ → Option Colour
colour_in [] name = None
colour_in (row ∷ rows) name = if bytes_eq row.0 name then Some row.1 else colour_in rows name

-- the colour of a keyword, in any case
unfoldable pub named_colour : List ℕ → Option Colour
named_colour text = colour_in named_colours (lowered text)

-- the value of a hexadecimal digit, in any case
abbrev pub hex_value : ℕ → ℕ
hex_value c = if is_ascii_digit c then c - 48 else to_ascii_lowercase c - 87

abbrev pub of_digits : List ℕ → Option Colour
of_digits (r ∷ g ∷ b ∷ []) =
    Some (opaque_colour (17 * hex_value r) (17 * hex_value g) (17 * hex_value b))
of_digits (r ∷ s ∷ g ∷ h ∷ b ∷ c ∷ []) =
    Some (opaque_colour (16 * hex_value r + hex_value s) (16 * hex_value g + hex_value h)
    (16 * hex_value b + hex_value c))
of_digits _ = None

-- `rgb` stands for `rrggbb`
unfoldable pub hex_colour : List ℕ → Option Colour
hex_colour digits = if list_all is_ascii_hexdigit digits then of_digits digits else None

-- what stands before and after the first character of this code
abbrev pub split_first : ℕ → List ℕ → Option (List ℕ × List ℕ)
split_first stop [] = None
split_first stop (c ∷ text) = if c == stop then Some ([], text)
    else option_map (λ p. (c ∷ p.0, p.1)) (split_first stop text)

-- the number to 255 before the first character of this code, and the text after it
abbrev pub number_before : Option (List ℕ × List ℕ) → Option (ℕ × List ℕ)
number_before None = None
number_before (Some p) = option_map (λ n. (n, p.1)) (number_up_to 255 p.0)

unfoldable pub channel : ℕ → List ℕ → Option (ℕ × List ℕ)
channel stop text = number_before (split_first stop text)

abbrev pub after_space : List ℕ → List ℕ
after_space [] = []
after_space (c ∷ text) = if c == 32 then text else []

abbrev pub with_blue : ℕ → ℕ → Option (ℕ × List ℕ) → Option Colour
with_blue red green None = None
with_blue red green (Some (blue, [])) = Some (opaque_colour red green blue)
with_blue red green (Some (blue, c ∷ text)) = None

abbrev pub with_green : ℕ → Option (ℕ × List ℕ) → Option Colour
with_green red None = None
with_green red (Some p) = with_blue red p.0 (channel 41 (after_space p.1))

abbrev pub with_red : Option (ℕ × List ℕ) → Option Colour
with_red None = None
with_red (Some p) = with_green p.0 (channel 44 (after_space p.1))

-- `r, g, b)`, with one space after each comma
unfoldable pub rgb_colour : List ℕ → Option Colour
rgb_colour text = with_red (channel 44 text)

abbrev pub if_none : Option Colour → Option Colour → Option Colour
if_none None other = other
if_none (Some c) other = Some c

abbrev pub marked_colour : List ℕ → Option Colour
marked_colour [] = None
marked_colour (c ∷ text) = if c == 35 then hex_colour text else None

abbrev pub functional_colour : List ℕ → Option Colour
functional_colour (r ∷ g ∷ b ∷ o ∷ text) =
    if bytes_eq (codes "rgb(") (r ∷ g ∷ b ∷ o ∷ []) then rgb_colour text
    else None
functional_colour _ = None

-- `transparent`, a keyword, `#rgb`, `#rrggbb` or `rgb(r, g, b)`
unfoldable pub colour_of : List ℕ → Option Colour
colour_of text =
    if bytes_eq (codes "transparent") text then Some transparent
    else if_none (named_colour text) (if_none (marked_colour text) (functional_colour text))

-- `rgb(r, g, b)`, or for transparent `rgba(0, 0, 0, 0)`
unfoldable pub colour_text : Colour → List ℕ
colour_text c =
    if c.clear then codes "rgba(0, 0, 0, 0)"
    else codes "rgb(" ++ (decimal c.red ++ (codes ", " ++ (decimal c.green
    ++ (codes ", " ++ (decimal c.blue ++ codes ")")))))
