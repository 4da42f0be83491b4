-- A turn of the loop that lists a line, and its end.
use Rattle.std.proofs.Common.{◌≡◌, ℕ, zero, suc, ◌-◌, ◌<◌, ◌≤◌, List, [], ◌∷◌, refl, arith}
use Rattle.edit_model.specs.State.{State}
use Rattle.inline_value.specs.WrapSplit.Wrap.{list_on}
use Rattle.delete_core.specs.Merging.{next_in_line, line_after}

suc-sub-one : (n : ℕ) → suc n - 1 ≡ n
suc-sub-one n = omega arith

pub line_turn : (s : State) (n z : ℕ) → 0 < n → line_after s n z ≡ list_on (next_in_line s z) [] (λ q. q ∷ line_after s (n - 1) q)
unfolding line_after
line_turn s zero z h = absurd (omega arith)
line_turn s (suc n) z h = rw (suc-sub-one n)

pub line_end : (s : State) (n z : ℕ) → n ≤ 0 → line_after s n z ≡ []
unfolding line_after
line_end s zero z h = refl
line_end s (suc n) z h = absurd (omega arith)

pub ruleset lines = (line_turn, line_end)
