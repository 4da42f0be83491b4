-- How the count of a series goes on, a member at a time.
use Rattle.std.proofs.Common.{◌≡◌, ℕ, ◌+◌, ◌<◌, ◌≤◌, Bool, List, [], ◌∷◌, length, drop, map, get_or, if◌then◌else◌, refl, drop-cons, add-one, arith}
use Rattle.std.proofs.Math.ListN.{drop_of_length-le}
use Rattle.node_paths.specs.NodeArena.declared.NodeRef.{NodeRef}
use Rattle.block_extend.specs.Series.{count_after, count_series}

pub series_turn : (on : ℕ → ℕ → Bool) (x : ℕ) (xs : List NodeRef) (i : ℕ) → i < length xs →
    count_after on x (map (λ r. r.label) (drop i xs))
    ≡ (if on x (get_or xs i record { slot = 0; label = 0 }).label then count_after on (get_or xs i record { slot = 0; label = 0 }).label (map (λ r. r.label) (drop (i + 1) xs)) + 1 else 0)
series_turn on x xs i h = rw (drop-cons xs i record { slot = 0; label = 0 } h, add-one i) refl

pub series_end : (on : ℕ → ℕ → Bool) (x : ℕ) (xs : List NodeRef) (i : ℕ) → length xs ≤ i →
    count_after on x (map (λ r. r.label) (drop i xs)) ≡ 0
series_end on x xs i h = rw (drop_of_length-le xs h) refl

pub series_start : (on : ℕ → ℕ → Bool) (xs : List NodeRef) → 0 < length xs →
    count_series on (map (λ r. r.label) xs)
    ≡ count_after on (get_or xs 0 record { slot = 0; label = 0 }).label (map (λ r. r.label) (drop 1 xs)) + 1
series_start on [] h = absurd (omega arith)
series_start on (x ∷ xs) h = refl

pub series_none : (on : ℕ → ℕ → Bool) (xs : List NodeRef) → length xs ≡ 0 → count_series on (map (λ r. r.label) xs) ≡ 0
series_none on [] h = refl
series_none on (x ∷ xs) h = absurd (omega arith)

pub ruleset series = (series_turn, series_end, series_start, series_none)
