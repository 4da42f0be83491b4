-- The rooms of texts.
use Rattle.std.proofs.Common.{◌≡◌, ◌≢◌, ◌^◌, ℕ, zero, suc, ◌+◌, ◌-◌, ◌/◌, ◌<◌, ◌≤◌, Bool, true, false, refl, sym, ap, ◌∙◌, arith, inl, inr}
use Rattle.std.proofs.lemmas.Bool.Decides.{nat_tests}
use Rattle.std.specs.Prelude.{nat_le, nat_lt, ◌&&◌}
use Rattle.dom_model.proofs.Stands.{true_or_false}
use Rattle.dom_model.specs.Room.{room_from, room_of}

pub room_within : (k room n : ℕ) → n ≤ room_from k room n
unfolding room_from
room_within zero room n = omega arith
room_within (suc k) room n = elim (true_or_false (nat_le n room)) [
  | inl e ↦ rw e (grind (arith, nat_tests, e))
  | inr e ↦ rw e (room_within k (room + room / 4) n)
]

pub fits : (n : ℕ) → n ≤ room_of n
unfolding room_of
fits n = elim (true_or_false (nat_lt 0 n && nat_lt n (2 ^ 32))) [
  | inl e ↦ rw e (room_within 100 6 n)
  | inr e ↦ rw e (omega arith)
]

-- ---- the search for it

pub room_step : (k room n : ℕ) → room < n → room_from (suc k) room n ≡ room_from k (room + room / 4) n
unfolding room_from
room_step k room n lt = (let e : nat_le n room ≡ false = grind (arith, nat_tests, lt) in rw e refl)

pub room_found : (k room n : ℕ) → n ≤ room → room_from (suc k) room n ≡ room
unfolding room_from
room_found k room n le = (let e : nat_le n room ≡ true = grind (arith, nat_tests, le) in rw e refl)

pub room_left : (room n : ℕ) → room_from zero room n ≡ n
unfolding room_from
room_left room n = refl

pub room_begins : (n : ℕ) → 0 < n → n < 2 ^ 32 → room_of n ≡ room_from 100 6 n
unfolding room_of
room_begins n some low = (let a : nat_lt 0 n ≡ true = grind (arith, nat_tests, some) in let b : nat_lt n (2 ^ 32) ≡ true = grind (arith, nat_tests, low) in rw (a, b) refl)

pub room_none : room_of 0 ≡ 0
unfolding room_of
room_none = refl

and_false : (b : Bool) → (b && false) ≡ false
and_false true = refl
and_false false = refl

pub room_long : (n : ℕ) → 2 ^ 32 ≤ n → room_of n ≡ n
unfolding room_of
room_long n high =
    let b : nat_lt n (2 ^ 32) ≡ false = grind (arith, nat_tests, high) in
    let e : (nat_lt 0 n && nat_lt n (2 ^ 32)) ≡ false = ap (λ t. nat_lt 0 n && t) b ∙ and_false (nat_lt 0 n) in
    rw e refl

-- a room that is large enough ends the search, and a smaller one goes on
pub ended : (left room n : ℕ) → n ≢ 0 → n < 2 ^ 32 → 0 < left → n ≤ room
    → room_from left room n ≡ room_from 100 6 n → room ≡ room_of n
ended zero room n some low more le h = absurd (omega (arith, more))
ended (suc k) room n some low more le h =
    sym (room_found k room n le) ∙ (h ∙ sym (room_begins n (omega (arith, some)) low))

pub goes_on : (left room n : ℕ) → 0 < left → room < n → room_from left room n ≡ room_from 100 6 n
    → room_from (left - 1) (room + room / 4) n ≡ room_from 100 6 n
goes_on zero room n more lt h = absurd (omega (arith, more))
goes_on (suc k) room n more lt h =
    ap (λ m. room_from m (room + room / 4) n) (same k) ∙ (sym (room_step k room n lt) ∙ h)
  where
    same : (k : ℕ) → suc k - 1 ≡ k
    same k = omega arith

pub gave_up : (left room n : ℕ) → n ≢ 0 → n < 2 ^ 32 → left ≤ 0
    → room_from left room n ≡ room_from 100 6 n → n ≡ room_of n
gave_up zero room n some low none h =
    sym (room_left room n) ∙ (h ∙ sym (room_begins n (omega (arith, some)) low))
gave_up (suc k) room n some low none h = absurd (omega (arith, none))
