-- Decimal numbers without leading zeros, and sizes of fonts.
use Rattle.std.specs.Prelude.{ℕ, ◌+◌, ◌-◌, ◌*◌, ◌==◌, nat_le, Bool, true, false, not, ◌&&◌, if◌then◌else◌, List, [], ◌∷◌, Option, Some, None, fold}
use Rattle.std.specs.Char.{is_ascii_digit}
use Rattle.std.specs.List.{list_all}
use Rattle.css_value.specs.SizeKeywords.{smallest, larger, of_pixels}

-- the number with one digit more
abbrev pub with_digit : ℕ → ℕ → ℕ
with_digit n c = 10 * n + (c - 48)

-- the number that digits stand for
abbrev pub decimal : List ℕ → ℕ
decimal digits = fold with_digit 0 digits

-- there are digits, and the first isn't a needless zero
abbrev pub is_trim : List ℕ → Bool
is_trim [] = false
is_trim (c ∷ []) = true
is_trim (c ∷ d ∷ digits) = not (c == 48)

-- the number of a text of digits without leading zeros, where it is at most this
unfoldable pub number_up_to : ℕ → List ℕ → Option ℕ
number_up_to most text =
    if is_trim text && list_all is_ascii_digit text && nat_le (decimal text) most then
    Some (decimal text) else None

-- the one of the sizes 1 to 7 that pixels are nearest to
unfoldable pub legacy_size : ℕ → ℕ
legacy_size px = of_pixels smallest larger px
