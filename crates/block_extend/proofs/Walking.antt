-- A walk, turn by turn.
use Rattle.std.proofs.Common.{◌≡◌, ℕ, suc, ◌-◌, ◌<◌, Bool, true, false, cond, Option, Some, None, sym, ap, ◌∙◌, arith}
use Rattle.node_tests.specs.LiveRange.declared.places.Point.{Point}
use Rattle.block_extend.specs.BlockExtend.{led, walk}

module _ (step : Point → Option Point) (stops : Point → Bool) where
  turn : (n : ℕ) (at : Point) → 0 < n → walk step stops n at ≡ led (step at) at (λ next. cond (stops next) next (walk step stops (n - 1) next))
  unfolding walk
  turn n at some =
      let one : n ≡ suc (n - 1) = omega (arith, some) in
      ap (λ k. walk step stops k at) one

  pub walk_ends : (n : ℕ) (at : Point) → 0 < n → step at ≡ None → at ≡ walk step stops n at
  walk_ends n at some e = sym (turn n at some ∙ ap (λ o. led o at (λ next. cond (stops next) next (walk step stops (n - 1) next))) e)

  module _ (n : ℕ) (at next : Point) (some : 0 < n) (e : step at ≡ Some next) where
    came : walk step stops n at ≡ cond (stops next) next (walk step stops (n - 1) next)
    came = turn n at some ∙ ap (λ o. led o at (λ next. cond (stops next) next (walk step stops (n - 1) next))) e

    pub walk_met : stops next ≡ true → next ≡ walk step stops n at
    walk_met met = sym (came ∙ ap (λ b. cond b next (walk step stops (n - 1) next)) met)

    pub walk_goes : stops next ≡ false → walk step stops (n - 1) next ≡ walk step stops n at
    walk_goes off = sym (came ∙ ap (λ b. cond b next (walk step stops (n - 1) next)) off)

  pub walk_out : (n : ℕ) (at : Point) → n ≡ 0 → at ≡ walk step stops n at
  unfolding walk
  walk_out n at none = sym (ap (λ k. walk step stops k at) none)
