-- A number that is read is the one that its text prints.
use Rattle.std.proofs.Common.{◌≡◌, ◌⊎◌, ℕ, ◌+◌, ◌-◌, ◌*◌, ◌^◌, ◌<◌, ◌≤◌, true, false, true≢false, not, cond, ◌&&◌, nat_le, eqb, List, [], ◌∷◌, ◌++◌, length, take, drop, get_or, Some, None, refl, sym, ap, ◌∙◌, inl, inr, arith, bytes_eq, codes, length-append}
use Rattle.std.specs.Fmt.{decimal}
use Rattle.std.specs.Char.{is_ascii_digit}
use Rattle.std.specs.List.{list_all, fold}
use Rattle.std.proofs.lemmas.Bool.Decides.{nat_tests}
use Rattle.std.proofs.lemmas.Bool.{eqb-true, eq-eqb, cases_Bool}
use Rattle.std.proofs.lemmas.Fmt.{decimal-digits_value, decimal_injective}
use Rattle.std.proofs.lemmas.Slice.Eq.{bytes_eq-Decides}
use Rattle.std.proofs.lemmas.Str.Parse.{numerals_by_fold, IsNumeralModel}
use Rattle.std.specs.Int.{IsInRange}
use Rattle.css_value.specs.Numbers.{with_digit, is_trim, number_up_to}
use Rattle.std.proofs.lemmas.List.{take-append-drop}
use Rattle.css_value.specs.Values.{pixels_text}
use Rattle.css_value.proofs.PrintedNumbers.{number-decimal}
use Rattle.std.proofs.Math.Seq.{drop-append_seam, take-append_seam}

abbrev AreDigits : List ℕ → Type 0
AreDigits text = list_all is_ascii_digit text ≡ true

model : IsNumeralModel AreDigits (fold with_digit 0)
model =
    numerals_by_fold AreDigits (record { empty = refl; parts = parts; more = more }) (fold with_digit) (record {
      empty = λ n. refl;
      more = λ n c cs in_range. ap (λ m. fold with_digit m cs) (swapped n c);
    })
  where
    swapped : (n c : ℕ) → 10 * n + (c - 48) ≡ n * 10 + (c - 48)
    swapped n c = omega arith

    range : (c : ℕ) → is_ascii_digit c ≡ true → IsInRange 48 57 c
    range c digit = grind (arith, nat_tests)

    parts : (c : ℕ) (cs : List ℕ) → AreDigits (c ∷ cs) → IsInRange 48 57 c × AreDigits cs
    parts c cs all =
        elim (cases_Bool (is_ascii_digit c)) [
          | inl t ↦ (range c t, sym (ap (λ b. b && list_all is_ascii_digit cs) t) ∙ all)
          | inr t ↦ absurd (true≢false (sym all ∙ ap (λ b. b && list_all is_ascii_digit cs) t))
        ]

    more : (c : ℕ) (cs : List ℕ) → IsInRange 48 57 c → AreDigits cs → AreDigits (c ∷ cs)
    more c cs in_range all = ap (λ b. b && list_all is_ascii_digit cs) (is_digit c in_range) ∙ all
      where
        is_digit : (c : ℕ) → IsInRange 48 57 c → is_ascii_digit c ≡ true
        is_digit c in_range = grind (arith, nat_tests)

-- a text of digits without needless zeros is what its number prints
numeral-printed : (most n : ℕ) (text : List ℕ) → most < 2 ^ 64 → number_up_to most text ≡ Some n → decimal n ≡ text
unfolding number_up_to
numeral-printed most n text small found =
    elim (cases_Bool (is_trim text)) [
      | inr n0 ↦ absurd (let t : None ≡ Some n = sym (ap (λ b. cond (b && list_all is_ascii_digit text && nat_le (fold with_digit 0 text) most) (Some (fold with_digit 0 text)) None) n0) ∙ found in cc)
      | inl trim ↦ (
          let one = sym (ap (λ b. cond (b && list_all is_ascii_digit text && nat_le (fold with_digit 0 text) most) (Some (fold with_digit 0 text)) None) trim) ∙ found in
          elim (cases_Bool (list_all is_ascii_digit text)) [
            | inr n0 ↦ absurd (let t : None ≡ Some n = sym (ap (λ b. cond (b && nat_le (fold with_digit 0 text) most) (Some (fold with_digit 0 text)) None) n0) ∙ one in cc)
            | inl all ↦ (
                let two = sym (ap (λ b. cond (b && nat_le (fold with_digit 0 text) most) (Some (fold with_digit 0 text)) None) all) ∙ one in
                elim (cases_Bool (nat_le (fold with_digit 0 text) most)) [
                  | inr n0 ↦ absurd (let t : None ≡ Some n = sym (ap (λ b. cond b (Some (fold with_digit 0 text)) None) n0) ∙ two in cc)
                  | inl low ↦ (
                      let three : Some (fold with_digit 0 text) ≡ Some n = sym (ap (λ b. cond b (Some (fold with_digit 0 text)) None) low) ∙ two in
                      let is_n : fold with_digit 0 text ≡ n = cc in
                      let bound : fold with_digit 0 text ≤ most = within (fold with_digit 0 text) most low in
                      ap decimal (sym is_n) ∙ decimal-digits_value model text all (nonempty text trim) (first text trim) (omega (arith, bound, small)))
                ])
          ])
    ]
  where
    within : (a b : ℕ) → nat_le a b ≡ true → a ≤ b
    within a b h = grind (arith, nat_tests)

    nonempty : (text : List ℕ) → is_trim text ≡ true → 0 < length text
    nonempty [] trim = absurd (cc)
    nonempty (c ∷ text) trim = omega arith

    first : (text : List ℕ) → is_trim text ≡ true → get_or text 0 0 ≡ 48 → length text ≡ 1
    first [] trim zero = absurd (cc)
    first (c ∷ []) trim zero = refl
    first (c ∷ d ∷ text) trim zero = absurd (let t : false ≡ true = sym (ap (λ b. not b) (eq-eqb c 48 zero)) ∙ trim in cc)

-- whether a text is what a number prints, by the number that is read
pub printed-some : (most w n : ℕ) (text : List ℕ) → most < 2 ^ 64 → w ≤ most → n ≤ most → Some n ≡ number_up_to most text → eqb n w ≡ bytes_eq (decimal w) text
printed-some most w n text small low within found =
    let printed = numeral-printed most n text small (sym found) in
    elim (cases_Bool (eqb n w)) [
      | inl t ↦ t ∙ sym ((bytes_eq-Decides (decimal w) text).1 (ap decimal (sym (eqb-true n w t)) ∙ printed))
      | inr t ↦ t ∙ sym (differs (cases_Bool (bytes_eq (decimal w) text)) t printed)
    ]
  where
    differs : (bytes_eq (decimal w) text ≡ true) ⊎ (bytes_eq (decimal w) text ≡ false) → eqb n w ≡ false → decimal n ≡ text → bytes_eq (decimal w) text ≡ false
    differs (inr other) t printed = other
    differs (inl eq) t printed =
        let same : n ≡ w = decimal_injective n w (omega (arith, within, small)) (omega (arith, low, small)) (printed ∙ sym ((bytes_eq-Decides (decimal w) text).0 eq)) in
        absurd (true≢false (sym (eq-eqb n w same) ∙ t))

pub printed-none : (most w : ℕ) (text : List ℕ) → most < 2 ^ 64 → w ≤ most → None ≡ number_up_to most text → false ≡ bytes_eq (decimal w) text
printed-none most w text small low none =
    elim (cases_Bool (bytes_eq (decimal w) text)) [
      | inr n0 ↦ sym n0
      | inl eq ↦ absurd (
          let read : number_up_to most text ≡ Some w = ap (number_up_to most) (sym ((bytes_eq-Decides (decimal w) text).0 eq)) ∙ number-decimal most w (omega (arith, low, small)) low in
          let t : None ≡ Some w = none ∙ read in
          cc)
    ]

-- a text ends in `px`, and what stands before it is a number
pub pixels-parts : (w k : ℕ) (text : List ℕ) → k ≡ length text - 2 → bytes_eq (pixels_text w) text ≡ (bytes_eq (codes "px") (drop k text) && bytes_eq (decimal w) (take k text))
unfolding pixels_text
pixels-parts w k text at =
    elim (cases_Bool (bytes_eq (decimal w ++ codes "px") text)) [
      | inl t ↦ (
          let is : decimal w ++ codes "px" ≡ text = (bytes_eq-Decides (decimal w ++ codes "px") text).0 t in
          let len : k ≡ length (decimal w) = at ∙ ap (λ x. length x - 2) (sym is) ∙ omega (arith, length-append {A = ℕ}) in
          let unit : drop k text ≡ codes "px" = ap (λ x. drop k x) (sym is) ∙ ap (λ i. drop i (decimal w ++ codes "px")) len ∙ drop-append_seam (decimal w) (codes "px") in
          let front : take k text ≡ decimal w = ap (λ x. take k x) (sym is) ∙ ap (λ i. take i (decimal w ++ codes "px")) len ∙ take-append_seam (decimal w) (codes "px") in
          t ∙ sym (ap (λ b. b && bytes_eq (decimal w) (take k text)) ((bytes_eq-Decides (codes "px") (drop k text)).1 (sym unit)) ∙ (bytes_eq-Decides (decimal w) (take k text)).1 (sym front)))
      | inr t ↦ t ∙ sym (apart t (cases_Bool (bytes_eq (codes "px") (drop k text))) (cases_Bool (bytes_eq (decimal w) (take k text))))
    ]
  where
    apart : bytes_eq (decimal w ++ codes "px") text ≡ false → (bytes_eq (codes "px") (drop k text) ≡ true) ⊎ (bytes_eq (codes "px") (drop k text) ≡ false) → (bytes_eq (decimal w) (take k text) ≡ true) ⊎ (bytes_eq (decimal w) (take k text) ≡ false) → (bytes_eq (codes "px") (drop k text) && bytes_eq (decimal w) (take k text)) ≡ false
    apart other (inr u) front = ap (λ b. b && bytes_eq (decimal w) (take k text)) u
    apart other (inl u) (inr v) = ap (λ b. b && bytes_eq (decimal w) (take k text)) u ∙ v
    apart other (inl u) (inl v) =
        let whole : decimal w ++ codes "px" ≡ text =
        ap (λ x. x ++ codes "px") ((bytes_eq-Decides (decimal w) (take k text)).0 v)
        ∙ ap (λ x. take k text ++ x) ((bytes_eq-Decides (codes "px") (drop k text)).0 u)
        ∙ take-append-drop k text in
        absurd (true≢false (sym ((bytes_eq-Decides (decimal w ++ codes "px") text).1 whole) ∙ other))
