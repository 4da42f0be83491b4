-- Colours that are printed are read back.
use Rattle.std.proofs.Common.{◌≡◌, ℕ, ◌<◌, Bool, true, false, true≢false, cond, ◌&&◌, eqb, List, [], ◌∷◌, ◌++◌, Option, Some, refl, sym, ap, ◌∙◌, arith}
use Rattle.std.specs.Fmt.{decimal}
use Rattle.std.specs.Char.{is_ascii_digit}
use Rattle.std.specs.List.{list_all}
use Rattle.std.specs.Option.{option_map}
use Rattle.std.proofs.lemmas.Bool.{eqb-true, eq-eqb}
use Rattle.css_value.specs.declared.colours.Colour.{Colour}
use Rattle.css_value.specs.Colours.{opaque_colour, split_first, number_before, channel, with_blue, with_green, with_red, rgb_colour, named_colour, colour_of, colour_text}
use Rattle.css_value.proofs.PrintedNumbers.{digits-decimal, number-decimal}

-- digits before a character that is none
split-digits : (stop : ℕ) (digits rest : List ℕ) → is_ascii_digit stop ≡ false → list_all is_ascii_digit digits ≡ true → split_first stop (digits ++ stop ∷ rest) ≡ Some (digits, rest)
split-digits stop [] rest not_digit all =
    ap (λ b. cond {A = Option (List ℕ × List ℕ)} b (Some ([], rest)) (option_map (λ p. (stop ∷ p.0, p.1)) (split_first stop rest))) (eq-eqb stop stop refl)
split-digits stop (c ∷ digits) rest not_digit all =
    split (is_ascii_digit c) refl (eqb c stop) refl all (split-digits stop digits rest not_digit)
  where
    split : (d : Bool) → is_ascii_digit c ≡ d → (b : Bool) → eqb c stop ≡ b → (d && list_all is_ascii_digit digits) ≡ true → (list_all is_ascii_digit digits ≡ true → split_first stop (digits ++ stop ∷ rest) ≡ Some (digits, rest)) → cond {A = Option (List ℕ × List ℕ)} b (Some ([], digits ++ stop ∷ rest)) (option_map (λ p. (c ∷ p.0, p.1)) (split_first stop (digits ++ stop ∷ rest))) ≡ Some (c ∷ digits, rest)
    split true is true same all further = absurd (true≢false (sym is ∙ ap is_ascii_digit (eqb-true c stop same) ∙ not_digit))
    split true is false other all further = ap (option_map (λ p. (c ∷ p.0, p.1))) (further all)
    split false is b other all further = absurd (true≢false (sym all))

channel-decimal : (stop n : ℕ) (rest : List ℕ) → is_ascii_digit stop ≡ false → n < 256 → channel stop (decimal n ++ stop ∷ rest) ≡ Some (n, rest)
unfolding channel
channel-decimal stop n rest not_digit h =
    ap number_before (split-digits stop (decimal n) rest not_digit (digits-decimal n (omega arith)))
    ∙ ap (option_map (λ m. (m, rest))) (number-decimal 255 n (omega arith) (omega arith))

rgb-read_back : (red green blue : ℕ) → red < 256 → green < 256 → blue < 256 → rgb_colour (decimal red ++ 44 ∷ 32 ∷ (decimal green ++ 44 ∷ 32 ∷ (decimal blue ++ 41 ∷ []))) ≡ Some (opaque_colour red green blue)
unfolding rgb_colour
rgb-read_back red green blue r g b =
    ap with_red (channel-decimal 44 red (32 ∷ (decimal green ++ 44 ∷ 32 ∷ (decimal blue ++ 41 ∷ []))) refl r)
    ∙ ap (with_green red) (channel-decimal 44 green (32 ∷ (decimal blue ++ 41 ∷ [])) refl g)
    ∙ ap (with_blue red green) (channel-decimal 41 blue [] refl b)

-- what begins with `rgb(` is no keyword
functional-only : (text : List ℕ) → colour_of (114 ∷ 103 ∷ 98 ∷ 40 ∷ text) ≡ rgb_colour text
unfolding colour_of named_colour
functional-only text = refl

pub colour-read_back : (c : Colour) → c.red < 256 → c.green < 256 → c.blue < 256 → c.clear ≡ false → colour_of (colour_text c) ≡ Some c
unfolding colour_text
colour-read_back c r g b opaque =
    ap (λ clear. colour_of (colour_text (record { red = c.red; green = c.green; blue = c.blue; clear = clear }))) opaque
    ∙ functional-only (decimal c.red ++ 44 ∷ 32 ∷ (decimal c.green ++ 44 ∷ 32 ∷ (decimal c.blue ++ 41 ∷ [])))
    ∙ rgb-read_back c.red c.green c.blue r g b
    ∙ ap (λ clear. Some (record { red = c.red; green = c.green; blue = c.blue; clear = clear })) (sym opaque)
