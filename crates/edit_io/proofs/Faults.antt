-- How counts of faults rise over several calls.
use Rattle.std.proofs.Common.{◌≡◌, ℕ, ◌+◌, ◌-◌, ◌^◌, ◌<◌, ◌≤◌, List, Bool, true, false, ◌&&◌, nat_lt, refl, ap, ◌∙◌, arith, add-one}
use Rattle.std.specs.Prelude.{if◌then◌else◌}
use Rattle.edit_io.specs.Faults.{Rose, next_call, is_listed, fails_at, failed_below}

-- a count that rose in the first part of a run rose in the whole
pub Rose-before : (a b c : ℕ) → a ≤ b → b ≤ c → Rose a b → Rose a c
Rose-before a b c h k rose = grind arith

-- a count that rose in the last part of a run rose in the whole
pub Rose-after : (a b c : ℕ) → a ≤ b → Rose b c → Rose a c
Rose-after a b c h rose = grind arith

-- one more call counts where it is listed
pub failed_below-next : (failing : List ℕ) (call : ℕ) → failed_below failing (call + 1) ≡ (if is_listed failing call then 1 else 0) + failed_below failing call
unfolding failed_below
failed_below-next failing call = rw add-one refl

-- the count of failed calls never falls
pub failed_below-rises : (failing : List ℕ) (calls : ℕ) → failed_below failing calls ≤ failed_below failing (next_call calls)
failed_below-rises failing calls =
    elim (nat_lt calls (2 ^ 64 - 1)) as (λ b. failed_below failing calls ≤ failed_below failing (if b then calls + 1 else calls)) [ true ↦ rw failed_below-next (omega arith) | false ↦ omega arith ]

-- one that is listed, and isn't at the last value, counts
pub failed_below-fails : (failing : List ℕ) (calls : ℕ) → fails_at failing calls ≡ true → failed_below failing calls < failed_below failing (next_call calls)
failed_below-fails failing calls fails = by_cases (is_listed failing calls) (nat_lt calls (2 ^ 64 - 1)) refl fails
  where
    by_cases : (listed below : Bool) → is_listed failing calls ≡ listed → (listed && below) ≡ true → failed_below failing calls < failed_below failing (if below then calls + 1 else calls)
    by_cases true true e h =
        let k : failed_below failing (calls + 1) ≡ 1 + failed_below failing calls = failed_below-next failing calls ∙ ap (λ b. (if b then 1 else 0) + failed_below failing calls) e in
        omega arith
    by_cases true false e h = cc
    by_cases false below e h = cc

-- where a call fails, it isn't at the last value
pub next_call-fails : (failing : List ℕ) (calls : ℕ) → fails_at failing calls ≡ true → next_call calls ≡ calls + 1
next_call-fails failing calls fails = by_cases (is_listed failing calls) (nat_lt calls (2 ^ 64 - 1)) fails
  where
    by_cases : (listed below : Bool) → (listed && below) ≡ true → (if below then calls + 1 else calls) ≡ calls + 1
    by_cases listed true h = refl
    by_cases true false h = cc
    by_cases false false h = cc
