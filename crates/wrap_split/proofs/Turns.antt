-- A turn of a walk, and its end.
use Rattle.std.proofs.Common.{◌≡◌, ℕ, zero, suc, ◌-◌, ◌<◌, ◌≤◌, Option, refl, arith}
use Rattle.wrap_split.specs.Walks.{walk, followed}

suc-sub-one : (n : ℕ) → suc n - 1 ≡ n
suc-sub-one n = omega arith

pub walk_turn : (step : ℕ → Option ℕ) (n l : ℕ) → 0 < n → walk step n l ≡ followed (step l) l (walk step (n - 1))
unfolding walk
walk_turn step zero l h = absurd (omega arith)
walk_turn step (suc n) l h = rw (suc-sub-one n)

pub walk_end : (step : ℕ → Option ℕ) (n l : ℕ) → n ≤ 0 → walk step n l ≡ l
unfolding walk
walk_end step zero l h = refl
walk_end step (suc n) l h = absurd (omega arith)

pub ruleset walks = (walk_turn, walk_end)
