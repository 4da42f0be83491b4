-- Which values of an inline command are the same (HTML Editing APIs, "equivalent values", "loosely
-- equivalent values"). A value is a text or null.
use Rattle.std.specs.Prelude.{ℕ, ◌==◌, Bool, true, false, not, ◌&&◌, ◌||◌, if◌then◌else◌, List, Option, Some, None, bytes_eq, codes}
use Rattle.std.specs.Option.{option_map_or}
use Rattle.node_styles.specs.CssValue.declared.colours.Colour.{Colour}
use Rattle.node_styles.specs.CssValue.Colours.{colour_of, transparent}
use Rattle.node_styles.specs.CssValue.Values.{keyword_size, pixels_text}
use Rattle.node_styles.specs.HtmlNames.declared.commands.Command.{Command}
use Rattle.node_styles.specs.HtmlNames.declared.commands.Command.TheVariants as command

-- bold and 700, or normal and 400
abbrev pub are_bold : List ℕ → List ℕ → Bool
are_bold a b =
    (bytes_eq (codes "bold") a && bytes_eq (codes "700") b)
    || (bytes_eq (codes "normal") a && bytes_eq (codes "400") b)

-- the components of a colour; `rgba(0, 0, 0, 0)` has those of transparent
unfoldable pub components : List ℕ → Option Colour
components text =
    if bytes_eq (codes "rgba(0, 0, 0, 0)") text then Some transparent else colour_of text

abbrev pub is_same_bool : Bool → Bool → Bool
is_same_bool true b = b
is_same_bool false b = not b

abbrev pub is_same_colour : Colour → Colour → Bool
is_same_colour a b =
    (a.red == b.red) && (a.green == b.green) && (a.blue == b.blue) && is_same_bool a.clear b.clear

abbrev pub are_same_colours : Option Colour → Option Colour → Bool
are_same_colours (Some a) (Some b) = is_same_colour a b
are_same_colours _ _ = false

abbrev pub is_colour_command : Command → Bool
is_colour_command command.ForeColor = true
is_colour_command command.BackColor = true
is_colour_command command.HiliteColor = true
is_colour_command _ = false

abbrev pub is_bold_command : Command → Bool
is_bold_command command.Bold = true
is_bold_command _ = false

abbrev pub is_size_command : Command → Bool
is_size_command command.FontSize = true
is_size_command _ = false

unfoldable pub are_equivalent : Command → List ℕ → List ℕ → Bool
are_equivalent command a b =
    bytes_eq a b
    || (is_bold_command command && (are_bold a b || are_bold b a))
    || (is_colour_command command && are_same_colours (components a) (components b))

unfoldable pub equivalent : Command → Option (List ℕ) → Option (List ℕ) → Bool
equivalent command None None = true
equivalent command (Some a) (Some b) = are_equivalent command a b
equivalent command None (Some b) = false
equivalent command (Some a) None = false

-- a keyword and its size
abbrev pub is_keyword_of : List ℕ → List ℕ → Bool
is_keyword_of keyword size =
    option_map_or (λ px. bytes_eq (pixels_text px) size) (keyword_size keyword) false

unfoldable pub are_alike : Command → List ℕ → List ℕ → Bool
are_alike command a b =
    are_equivalent command a b
    || (is_size_command command && (is_keyword_of a b || is_keyword_of b a))

unfoldable pub alike : Command → Option (List ℕ) → Option (List ℕ) → Bool
alike command None None = true
alike command (Some a) (Some b) = are_alike command a b
alike command None (Some b) = false
alike command (Some a) None = false
