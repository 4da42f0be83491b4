-- When a text stays the same with other characters in it.
use Rattle.std.proofs.Common.{◌≡◌, ℕ, ◌+◌, ◌-◌, ◌^◌, ◌<◌, ◌≤◌, Bool, true, false, not, ◌&&◌, List, ◌++◌, length, take, drop, nat_le, nat_lt, Some, refl, sym, ap, ◌∙◌, arith, length-append, length-drop}
use Rattle.std.specs.Prelude.{bytes_eq}
use Rattle.std.proofs.lemmas.List.{append_cancel_left, append_cancel_right, drop-drop, length-take, take-append-drop}
use Rattle.std.proofs.lemmas.Bool.{le-leb, lt-ltb}
use Rattle.std.proofs.lemmas.Slice.Eq.{bytes_eq-Decides}
use Rattle.edit_model.specs.DomModel.declared.Content.TheVariants.{Words}
use Rattle.edit_model.specs.Confined.{may_change, spliced}

-- characters that are put where they stand
put_back : (xs put : List ℕ) (at count : ℕ) → take count (drop at xs) ≡ put → spliced xs at count put ≡ xs
put_back xs put at count e =
    ap (λ p. take at xs ++ (p ++ drop (at + count) xs)) (sym e)
    ∙ (ap (λ t. take at xs ++ (take count (drop at xs) ++ t)) (sym (drop-drop count at xs))
    ∙ (ap (λ t. take at xs ++ t) (take-append-drop count (drop at xs)) ∙ take-append-drop at xs))

-- a text that stays the same has the characters that are put
put_same : (xs put : List ℕ) (at count : ℕ) → spliced xs at count put ≡ xs → take count (drop at xs) ≡ put
put_same xs put at count e =
    let tail : put ++ drop (at + count) xs ≡ drop at xs = append_cancel_left (take at xs) _ _ (e ∙ sym (take-append-drop at xs)) in
    let whole : drop at xs ≡ take count (drop at xs) ++ drop (at + count) xs = sym (take-append-drop count (drop at xs)) ∙ ap (λ t. take count (drop at xs) ++ t) (drop-drop count at xs) in
    sym (append_cancel_right put (take count (drop at xs)) (drop (at + count) xs) (tail ∙ whole))

neither : (a b : Bool) → false ≡ (a && (b && false))
neither true true = refl
neither true false = refl
neither false b = refl

spliced_length : (xs put : List ℕ) (at count : ℕ) → at + count ≤ length xs → length (spliced xs at count put) ≡ length put + (length xs - count)
spliced_length xs put at count within =
    omega (arith, length-append (take at xs) (put ++ drop (at + count) xs), length-append put (drop (at + count) xs), length-take at xs, length-drop (at + count) xs)

module _ (xs ys put : List ℕ) (at count n : ℕ) (same : n ≡ count) (is : ys ≡ xs) where
  pub no_change : true ≡ bytes_eq (take n (drop at ys)) put → false ≡ may_change (Some (Words xs)) at count put
  no_change h =
      let piece : take count (drop at xs) ≡ put = rw (← same, ← is) ((bytes_eq-Decides (take n (drop at ys)) put).0 (sym h)) in
      let t : bytes_eq (spliced xs at count put) xs ≡ true = (bytes_eq-Decides (spliced xs at count put) xs).1 (put_back xs put at count piece) in
      rw t (neither (nat_le (at + count) (length xs)) (nat_lt (length (spliced xs at count put)) (2 ^ 32)))

  pub change : at + count ≤ length xs → length put + (length xs - count) < 2 ^ 32 → false ≡ bytes_eq (take n (drop at ys)) put → true ≡ may_change (Some (Words xs)) at count put
  change within low h = by (bytes_eq (spliced xs at count put) xs) refl
    where
      by : (b : Bool) → bytes_eq (spliced xs at count put) xs ≡ b → true ≡ (nat_le (at + count) (length xs) && (nat_lt (length (spliced xs at count put)) (2 ^ 32) && not b))
      by true e = absurd (
          let piece : take count (drop at xs) ≡ put = put_same xs put at count ((bytes_eq-Decides (spliced xs at count put) xs).0 e) in
          let piece' : take n (drop at ys) ≡ put = rw (same, is) piece in
          let t : bytes_eq (take n (drop at ys)) put ≡ true = (bytes_eq-Decides (take n (drop at ys)) put).1 piece' in
          cc)
      by false e = rw (le-leb (at + count) (length xs) within, lt-ltb (length (spliced xs at count put)) (2 ^ 32) (omega (arith, low, spliced_length xs put at count within))) refl
