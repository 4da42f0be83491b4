-- The sizes 1 to 7 of the attribute `size` of font, and of the command fontSize. A text is a list
-- of characters.
use Rattle.std.specs.Prelude.{ℕ, ◌+◌, ◌-◌, ◌==◌, not, ◌&&◌, min, max, if◌then◌else◌, List, [], ◌∷◌, Option, Some, None}
use Rattle.std.specs.Char.{is_ascii_digit}
use Rattle.std.specs.List.{list_all}
use Rattle.std.specs.Option.{option_map}
use Rattle.css_value.specs.StyleText.{trimmed, is_empty}
use Rattle.css_value.specs.Numbers.{decimal}
use Rattle.css_value.specs.SizeKeywords.{smallest, larger, of_number}

-- one or more digits
abbrev pub number_of : List ℕ → Option ℕ
number_of digits =
    if not (is_empty digits) && list_all is_ascii_digit digits then Some (decimal digits) else None

-- the nearest of 1 to 7
abbrev pub within_sizes : ℕ → ℕ
within_sizes n = max 1 (min 7 n)

-- a number with a sign is relative to 3
abbrev pub signed_size : List ℕ → Option ℕ
signed_size [] = None
signed_size (c ∷ text) =
    if c == 43 then option_map (λ n. within_sizes (3 + n)) (number_of text)
    else (if c == 45 then option_map (λ n. within_sizes (3 - n)) (number_of text)
    else option_map within_sizes (number_of (c ∷ text)))

-- ASCII whitespace round it doesn't count
unfoldable pub legacy_size_of : List ℕ → Option ℕ
legacy_size_of text = signed_size (trimmed text)

-- the pixels of a size
unfoldable pub pixels_of : ℕ → ℕ
pixels_of size = of_number (λ r. r.pixels) smallest larger size
