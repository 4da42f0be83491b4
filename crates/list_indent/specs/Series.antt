-- A list taken series by series: the first member, and the members after it for as long as each
-- goes on from the one before.
use Rattle.std.specs.Prelude.{ℕ, zero, suc, Bool, List, [], ◌∷◌, length, take, drop}
use Rattle.edit_model.specs.State.{State}
use Rattle.edit_model.specs.Run.{Run, ◌>>◌, done, look}
use Rattle.inline_value.specs.BlockExtend.Series.{count_series}

-- the first series of a list, and the rest
abbrev pub take_series : (ℕ → ℕ → Bool) → List ℕ → List ℕ × List ℕ
take_series on list = (take (count_series on list) list, drop (count_series on list) list)

-- at most so many series
unfoldable pub series_at_most : ℕ → (State → ℕ → ℕ → Bool) → (List ℕ → Run (Unit {0})) → List ℕ
    → Run (Unit {0})
series_at_most zero on body list = done
series_at_most (suc n) on body [] = done
series_at_most (suc n) on body (x ∷ xs) = look λ s. do
  body (take_series (on s) (x ∷ xs)).0
  series_at_most n on body (take_series (on s) (x ∷ xs)).1

-- each series is as the state has it when its turn comes; a list has no more of them than members
unfoldable pub for_series : (State → ℕ → ℕ → Bool) → (List ℕ → Run (Unit {0})) → List ℕ
    → Run (Unit {0})
for_series on body list = series_at_most (length list) on body list
