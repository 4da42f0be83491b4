-- The element that is made to give a node a value (HTML Editing APIs, "force the value").
use Rattle.std.specs.Prelude.{ℕ, ◌+◌, ◌/◌, ◌%◌, ◌==◌, nat_lt, Bool, ◌||◌, not, List, [], ◌∷◌, ◌++◌, codes, bytes_eq, Option, Some, None, unwrap_or, if◌then◌else◌}
use Rattle.std.specs.Option.{option_and_then}
use Rattle.wrap_split.specs.CssValue.declared.colours.Colour.{Colour}
use Rattle.wrap_split.specs.CssValue.Colours.{colour_of}
use Rattle.wrap_split.specs.CssValue.SizeKeywords.{smallest, larger, of_keyword}
use Rattle.edit_model.specs.HtmlNames.declared.commands.Command.{Command}
use Rattle.edit_model.specs.HtmlNames.declared.commands.Command.TheVariants as command
use Rattle.wrap_split.specs.declared.rule.Blank.{Blank}

-- a name alone, and a name with one attribute
abbrev pub bare : List ℕ → Blank
bare name = record { name = name; attributes = [] }

abbrev pub with_attribute : List ℕ → List ℕ → List ℕ → Blank
with_attribute name attribute value =
    record { name = name; attributes = record { name = attribute; value = value } ∷ [] }

-- which of the sizes 1 to 7 a keyword names
unfoldable pub size_of_keyword : List ℕ → Option ℕ
size_of_keyword v = of_keyword (λ r. r.number) (smallest ∷ larger) v

-- ---- colours as `#rrggbb`

abbrev pub hex_digit : ℕ → ℕ
hex_digit n = if nat_lt n 10 then 48 + n else 87 + n

unfoldable pub hex_pair : ℕ → List ℕ
hex_pair n = hex_digit (n / 16) ∷ hex_digit (n % 16) ∷ []

-- `#rrggbb` in lower case
unfoldable pub hex_text : Colour → List ℕ
hex_text c = 35 ∷ (hex_pair c.red ++ (hex_pair c.green ++ hex_pair c.blue))

-- ---- force the value, step 5, line by line

-- line b: a font of a size, by its digit
abbrev pub font_of_size : ℕ → Blank
font_of_size n = with_attribute (codes "font") (codes "size") ((48 + n) ∷ [])

unfoldable pub size_font : Bool → List ℕ → Option Blank
size_font css v =
    option_and_then (λ n. if not css || (n == 7) then Some (font_of_size n)
    else None) (size_of_keyword v)

-- line c: a sub or a sup
unfoldable pub script_element : List ℕ → Option Blank
script_element v =
    if bytes_eq (codes "subscript") v then Some (bare (codes "sub"))
    else (if bytes_eq (codes "superscript") v then Some (bare (codes "sup"))
    else None)

-- line d: an element of a name, where the value is its
abbrev pub named_for : List ℕ → List ℕ → List ℕ → Option Blank
named_for word name v = if bytes_eq word v then Some (bare name) else None

-- line d: a font with a colour that isn't transparent
abbrev pub colour_font_of : Option Colour → Option Blank
colour_font_of None = None
colour_font_of (Some c) =
    if c.clear then None else Some (with_attribute (codes "font") (codes "color") (hex_text c))

unfoldable pub colour_font : List ℕ → Option Blank
colour_font v = colour_font_of (colour_of v)

abbrev pub face_font : List ℕ → Option Blank
face_font v = Some (with_attribute (codes "font") (codes "face") v)

-- line d: what stands for the value without styles
abbrev pub presentational : Command → List ℕ → Option Blank
presentational command.Bold v = named_for (codes "bold") (codes "b") v
presentational command.Italic v = named_for (codes "italic") (codes "i") v
presentational command.Strikethrough v = named_for (codes "line-through") (codes "s") v
presentational command.Underline v = named_for (codes "underline") (codes "u") v
presentational command.ForeColor v = colour_font v
presentational command.FontName v = face_font v
presentational _ v = None

-- line d, unless styles are wanted
abbrev pub unless_css : Bool → Command → List ℕ → Option Blank
unless_css css c v = if css then None else presentational c v

-- line a: a link to the value
abbrev pub link_to : List ℕ → Option Blank
link_to v = Some (with_attribute (codes "a") (codes "href") v)

-- lines a to d
abbrev pub chosen : Bool → Command → List ℕ → Option Blank
chosen css command.CreateLink v = link_to v
chosen css command.Unlink v = link_to v
chosen css command.FontSize v = size_font css v
chosen css command.Subscript v = script_element v
chosen css command.Superscript v = script_element v
chosen css c v = unless_css css c v

-- and line e, a span
unfoldable pub wrapper_for : Bool → Command → List ℕ → Blank
wrapper_for css command v = unwrap_or (chosen css command v) (bare (codes "span"))
