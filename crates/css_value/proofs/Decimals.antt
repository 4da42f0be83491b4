-- A number grows with each digit.
use Rattle.std.proofs.Common.{◌≡◌, ℕ, ◌+◌, ◌-◌, ◌*◌, ◌≤◌, ◌<◌, Bool, true, false, cond, ◌&&◌, List, [], ◌∷◌, length, drop, get_or, Some, None, refl, sym, ap, ◌∙◌, nat_le, fold, arith}
use Rattle.std.specs.List.{list_all}
use Rattle.std.specs.Char.{is_ascii_digit}
use Rattle.std.proofs.lemmas.List.{at_drop_more}
use Rattle.std.proofs.lemmas.Bool.Decides.{nat_tests}
use Rattle.css_value.specs.Numbers.{with_digit, decimal, is_trim, number_up_to}

decimal-grows : (n : ℕ) (digits : List ℕ) → n ≤ fold with_digit n digits
decimal-grows n [] = omega arith
decimal-grows n (c ∷ digits) =
    let further : 10 * n + (c - 48) ≤ fold with_digit (10 * n + (c - 48)) digits = decimal-grows (10 * n + (c - 48)) digits in
    omega arith

-- a number whose first digits are already too much
pub too-great : (most i c value : ℕ) (text : List ℕ) → i < length text → c ≡ get_or text i c → fold with_digit value (drop i text) ≡ decimal text → most < 10 * value + (c - 48) → None ≡ number_up_to most text
unfolding number_up_to
too-great most i c value text h is left great =
    let next : fold with_digit value (drop i text) ≡ fold with_digit (10 * value + (get_or text i c - 48)) (drop (i + 1) text) = at_drop_more (fold with_digit value) text i c h in
    let grows : 10 * value + (get_or text i c - 48) ≤ fold with_digit (10 * value + (get_or text i c - 48)) (drop (i + 1) text) = decimal-grows (10 * value + (get_or text i c - 48)) (drop (i + 1) text) in
    let over : most < decimal text = omega arith in
    let no : nat_le (decimal text) most ≡ false = past (decimal text) most over in
    sym (ap (λ b. cond ((is_trim text && list_all is_ascii_digit text) && b) (Some (decimal text)) None) no ∙ neither (is_trim text && list_all is_ascii_digit text))
  where
    past : (a b : ℕ) → b < a → nat_le a b ≡ false
    past a b h = grind (arith, nat_tests)

    neither : (a : Bool) → cond (a && false) (Some (decimal text)) None ≡ None
    neither true = refl
    neither false = refl
