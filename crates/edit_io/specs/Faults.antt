-- How the faults of a source or a sink are counted.
use Rattle.std.specs.Prelude.{◌≡◌, ℕ, zero, suc, ◌+◌, ◌-◌, ◌^◌, ◌<◌, ◌⊎◌, Bool, ◌&&◌, nat_eq, nat_lt, List, if◌then◌else◌}
use Rattle.std.specs.List.{list_any}

-- the count rose: it is greater than it was, or it stands at the last value of a u64, where it can
-- only stand still
abbrev pub Rose : ℕ → ℕ → Type 0
Rose old new = (old < new) ⊎ (new ≡ 2 ^ 64 - 1)

-- the count of calls after one more call: it stands still at the last value of a u64
abbrev pub next_call : ℕ → ℕ
next_call calls = if nat_lt calls (2 ^ 64 - 1) then calls + 1 else calls

-- whether the call with this number is in the list of those that are to fail
abbrev pub is_listed : List ℕ → ℕ → Bool
is_listed failing call = list_any (λ k. nat_eq k call) failing

-- whether the call with this number fails: it is listed, and the count of calls can still rise
abbrev pub fails_at : List ℕ → ℕ → Bool
fails_at failing call = is_listed failing call && nat_lt call (2 ^ 64 - 1)

-- how many of the calls numbered below this one are listed
unfoldable pub failed_below : List ℕ → ℕ → ℕ
failed_below failing zero = 0
failed_below failing (suc call) =
    (if is_listed failing call then 1 else 0) + failed_below failing call
