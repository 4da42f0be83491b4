-- A turn of a walk from point to point, and its end.
use Rattle.std.proofs.Common.{◌≡◌, ℕ, zero, suc, ◌-◌, ◌<◌, ◌≤◌, Option, refl, arith}
use Rattle.edit_model.specs.LiveRange.declared.places.Point.{Point}
use Rattle.delete_core.specs.Places.{walk_points, led_on}

suc-sub-one : (n : ℕ) → suc n - 1 ≡ n
suc-sub-one n = omega arith

pub points_turn : (step : Point → Option Point) (n : ℕ) (p : Point) → 0 < n → walk_points step n p ≡ led_on (step p) p (walk_points step (n - 1))
unfolding walk_points
points_turn step zero p h = absurd (omega arith)
points_turn step (suc n) p h = rw (suc-sub-one n)

pub points_end : (step : Point → Option Point) (n : ℕ) (p : Point) → n ≤ 0 → walk_points step n p ≡ p
unfolding walk_points
points_end step zero p h = refl
points_end step (suc n) p h = absurd (omega arith)

pub ruleset point_walks = (points_turn, points_end)
