-- Numbers that are printed are read back.
use Rattle.std.proofs.Common.{◌≡◌, ℕ, ◌+◌, ◌-◌, ◌*◌, ◌/◌, ◌%◌, ◌^◌, ◌<◌, ◌≤◌, Bool, true, false, true≢false, not, cond, ◌&&◌, ◌||◌, nat_le, eqb, List, [], ◌∷◌, ◌++◌, length, take, drop, Some, None, refl, sym, ap, subst, ◌∙◌, arith, bytes_eq, codes, length-append, IsTrue}
use Rattle.std.specs.Fmt.{decimal, digits}
use Rattle.std.specs.Char.{is_ascii_digit}
use Rattle.std.specs.List.{list_all, fold}
use Rattle.std.proofs.Math.Seq.{drop-append_seam, take-append_seam}
use Rattle.std.proofs.lemmas.Bool.{eqb-true}
use Rattle.std.proofs.lemmas.Bool.Decides.{nat_tests}
use Rattle.std.proofs.lemmas.Fmt.{decimal_by_steps}
use Rattle.std.proofs.lemmas.List.Folds.{list_all-append}
use Rattle.std.proofs.lemmas.List.Sums.{fold-append}
use Rattle.css_value.specs.Numbers.{with_digit, is_trim, number_up_to}
use Rattle.css_value.specs.Values.{pixels_text, font_size_of, font_weight_of, is_weight, keyword_size}

-- the first digit isn't a zero
abbrev starts : List ℕ → Bool
starts [] = false
starts (c ∷ digits) = not (eqb c 48)

-- the digits stand for the number, and none is needless
record Numeral (n : ℕ) (digits : List ℕ) : Type 0 where
  value : fold with_digit 0 digits ≡ n
  all_digits : list_all is_ascii_digit digits ≡ true
  trim : is_trim digits ≡ true
  first : 0 < n → starts digits ≡ true

digit : (n : ℕ) → n < 10 → is_ascii_digit (48 + n) ≡ true
digit n h = grind (arith, nat_tests)

Numeral-one : (n : ℕ) → n < 10 → Numeral n ((48 + n) ∷ [])
Numeral-one n h = record {
  value = omega arith;
  all_digits = ap (λ b. b && true) (digit n h);
  trim = refl;
  first = λ some. grind (arith, nat_tests);
}

trim-more : (digits : List ℕ) (c : ℕ) → starts digits ≡ true → is_trim (digits ++ c ∷ []) ≡ true
trim-more [] c h = absurd (cc)
trim-more (d ∷ []) c h = h
trim-more (d ∷ e ∷ digits) c h = h

starts-more : (digits : List ℕ) (c : ℕ) → starts digits ≡ true → starts (digits ++ c ∷ []) ≡ true
starts-more [] c h = absurd (cc)
starts-more (d ∷ digits) c h = h

Numeral-more : (n : ℕ) (digits : List ℕ) → 10 ≤ n → Numeral (n / 10) digits → Numeral n (digits ++ (48 + n % 10) ∷ [])
Numeral-more n digits h so_far =
    let front : starts digits ≡ true = so_far.first (omega arith) in
    let last : n % 10 < 10 = omega arith in
    record {
      value = fold-append with_digit 0 digits ((48 + n % 10) ∷ []) ∙ ap (λ m. with_digit m (48 + n % 10)) so_far.value ∙ whole n;
      all_digits = list_all-append is_ascii_digit digits ((48 + n % 10) ∷ []) ∙ ap (λ b. b && (is_ascii_digit (48 + n % 10) && true)) so_far.all_digits ∙ ap (λ b. b && true) (digit (n % 10) last);
      trim = trim-more digits (48 + n % 10) front;
      first = λ some. starts-more digits (48 + n % 10) front;
    }
  where
    whole : (n : ℕ) → 10 * (n / 10) + (48 + n % 10 - 48) ≡ n
    whole n = omega arith

Numeral-decimal : (n : ℕ) → n < 2 ^ 64 → Numeral n (decimal n)
Numeral-decimal n h = decimal_by_steps Numeral Numeral-one Numeral-more n h

pub digits-decimal : (n : ℕ) → n < 2 ^ 64 → list_all is_ascii_digit (decimal n) ≡ true
digits-decimal n h = (Numeral-decimal n h).all_digits

-- a number that is printed is read back
pub number-decimal : (most n : ℕ) → n < 2 ^ 64 → n ≤ most → number_up_to most (decimal n) ≡ Some n
unfolding number_up_to
number-decimal most n small h =
    let printed : Numeral n (decimal n) = Numeral-decimal n small in
    ap (λ b. cond (b && list_all is_ascii_digit (decimal n) && nat_le (fold with_digit 0 (decimal n)) most) (Some (fold with_digit 0 (decimal n))) None) printed.trim
    ∙ ap (λ b. cond (b && nat_le (fold with_digit 0 (decimal n)) most) (Some (fold with_digit 0 (decimal n))) None) printed.all_digits
    ∙ ap (λ v. cond (nat_le v most) (Some v) None) printed.value
    ∙ ap (λ b. cond b (Some n) None) (within n most h)
  where
    within : (a b : ℕ) → a ≤ b → nat_le a b ≡ true
    within a b h = grind (arith, nat_tests)

size-pixels : (digits : List ℕ) → font_size_of (digits ++ codes "px") ≡ number_up_to 9999 digits
unfolding font_size_of
size-pixels digits =
    let len : length (digits ++ codes "px") - 2 ≡ length digits = omega (arith, length-append {A = ℕ}) in
    ap (λ k. cond (bytes_eq (codes "px") (drop k (digits ++ codes "px"))) (number_up_to 9999 (take k (digits ++ codes "px"))) (keyword_size (digits ++ codes "px"))) len
    ∙ ap (λ t. cond (bytes_eq (codes "px") t) (number_up_to 9999 (take (length digits) (digits ++ codes "px"))) (keyword_size (digits ++ codes "px"))) (drop-append_seam digits (codes "px"))
    ∙ ap (number_up_to 9999) (take-append_seam digits (codes "px"))

pub size-read_back : (px : ℕ) → px ≤ 9999 → font_size_of (pixels_text px) ≡ Some px
unfolding pixels_text
size-read_back px h = size-pixels (decimal px) ∙ number-decimal 9999 px (omega arith) h

pub weight-read_back : (weight : ℕ) → IsTrue (is_weight weight) → font_weight_of (decimal weight) ≡ Some weight
unfolding font_weight_of digits
weight-read_back weight h =
    at 100 refl _ (at 200 refl _ (at 300 refl _ (at 400 refl _ (at 500 refl _ (at 600 refl _ (at 700 refl _ (at 800 refl _ (at 900 refl false (λ no. absurd (true≢false (sym no))))))))))) h
  where
    at : (n : ℕ) → font_weight_of (decimal n) ≡ Some n → (more : Bool) → (IsTrue more → font_weight_of (decimal weight) ≡ Some weight) → IsTrue (eqb n weight || more) → font_weight_of (decimal weight) ≡ Some weight
    at n here more further h = split (eqb n weight) refl h
      where
        split : (b : Bool) → eqb n weight ≡ b → IsTrue (b || more) → font_weight_of (decimal weight) ≡ Some weight
        split true is h = subst (λ w. font_weight_of (decimal w) ≡ Some w) (eqb-true n weight is) here
        split false is h = further h
