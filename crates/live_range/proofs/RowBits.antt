-- A set of rows as the bits of a number.
use Rattle.std.proofs.Common.{◌≡◌, ◌≢◌, ℕ, suc, zero, ◌*◌, ◌%◌, ◌^◌, ◌<◌, ◌≤◌, Bool, true, false, ◌==◌, ◌||◌, nat_eq, if◌then◌else◌, max, bit_or, bit_and, refl, sym, ap, ◌∙◌, arith, true≢false, w64}
use Rattle.std.specs.Int.{bit_at, bit_not, trailing_zeros}
use Rattle.std.proofs.lemmas.Bool.Decides.{Decides-eqb, nat_tests}
use Rattle.std.proofs.lemmas.Nat.{and_le_l}
use Rattle.std.proofs.lemmas.Nat.Bits.{bit_at_set_same, bit_at_set_other, bit_at_clear_same, bit_at_clear_other, bit_at_or, bit_at-lt, bit_at-trailing_zeros}

differs : (r row : ℕ) → (r == row) ≡ false → r ≢ row
differs r row e = λ s. true≢false (sym ((Decides-eqb r row).1 s) ∙ e)

abbrev has : ℕ → ℕ → Bool
has b r = nat_eq (bit_at b r) 1

module _ (b row : ℕ) (within : row < 64) where
  pub set_bit : (r : ℕ) → has (bit_or b (1 * 2 ^ row % 2 ^ 64)) r ≡ (if r == row then true else has b r)
  set_bit r = by (r == row) refl
    where
      by : (t : Bool) → (r == row) ≡ t → has (bit_or b (1 * 2 ^ row % 2 ^ 64)) r ≡ (if t then true else has b r)
      by true e = ap (λ k. has (bit_or b (1 * 2 ^ row % 2 ^ 64)) k) ((Decides-eqb r row).0 e) ∙ ap (λ n. nat_eq n 1) (bit_at_set_same w64 b row within)
      by false e = ap (λ n. nat_eq n 1) (bit_at_set_other w64 b row within r (differs r row e))

  pub clear_bit : (r : ℕ) → r < 64 → has (bit_and b (bit_not w64 (1 * 2 ^ row % 2 ^ 64))) r ≡ (if r == row then false else has b r)
  clear_bit r l = by (r == row) refl
    where
      by : (t : Bool) → (r == row) ≡ t → has (bit_and b (bit_not w64 (1 * 2 ^ row % 2 ^ 64))) r ≡ (if t then false else has b r)
      by true e =
          ap (λ k. has (bit_and b (bit_not w64 (1 * 2 ^ row % 2 ^ 64))) k) ((Decides-eqb r row).0 e)
          ∙ ap (λ n. nat_eq n 1) (bit_at_clear_same w64 b row within)
      by false e = ap (λ n. nat_eq n 1) (bit_at_clear_other w64 b row within r l (differs r row e))

  -- a number with one of its bits cleared is less
  pub clear_less : has b row ≡ true → bit_and b (bit_not w64 (1 * 2 ^ row % 2 ^ 64)) < b
  clear_less there =
      let m = bit_not w64 (1 * 2 ^ row % 2 ^ 64) in
      let le : bit_and b m ≤ b = and_le_l b m in
      let cleared : has (bit_and b m) row ≡ false = ap (λ n. nat_eq n 1) (bit_at_clear_same w64 b row within) in
      let apart : bit_and b m ≢ b = λ e. true≢false (sym there ∙ sym (ap (λ n. has n row) e) ∙ cleared) in
      grind (arith, le, apart)

bits_joined : (m n : ℕ) → m < 2 → n < 2 → nat_eq (max m n) 1 ≡ (nat_eq m 1 || nat_eq n 1)
bits_joined zero n h k = grind (arith, nat_tests)
bits_joined (suc zero) zero h k = refl
bits_joined (suc zero) (suc zero) h k = refl
bits_joined (suc zero) (suc (suc n)) h k = absurd (omega (arith, k))
bits_joined (suc (suc m)) n h k = absurd (omega (arith, h))

pub or_bits : (a b r : ℕ) → has (bit_or a b) r ≡ (has a r || has b r)
or_bits a b r = ap (λ n. nat_eq n 1) (bit_at_or a b r) ∙ bits_joined (bit_at a r) (bit_at b r) (bit_at-lt a r) (bit_at-lt b r)

module _ (b : ℕ) (some : 0 < b) (fits : b < 2 ^ 64) where
  pub lowest_within : trailing_zeros w64 b < 64
  lowest_within = (bit_at-trailing_zeros w64 b some fits).0

  pub lowest_there : has b (trailing_zeros w64 b) ≡ true
  lowest_there = ap (λ n. nat_eq n 1) (bit_at-trailing_zeros w64 b some fits).1

  pub none_below : (r : ℕ) → r < trailing_zeros w64 b → has b r ≡ false
  none_below r l = ap (λ n. nat_eq n 1) ((bit_at-trailing_zeros w64 b some fits).2 r l)
