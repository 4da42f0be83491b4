-- How the levels of a way are taken from the outermost in, and how a way is made.
use Rattle.std.proofs.Common.{◌≡◌, ℕ, zero, suc, ◌+◌, ◌-◌, ◌<◌, ◌≤◌, List, [], ◌∷◌, ◌++◌, length, take, reverse, get_or, Some, None, refl, add-one, arith}
use Rattle.std.proofs.lemmas.List.{take_more, reverse-append}
use Rattle.std.proofs.Math.Seq.{take-length}
use Rattle.edit_model.specs.DomModel.Forest.{first_in}
use Rattle.edit_model.specs.NodeArena.declared.NodeRef.{NodeRef}
use Rattle.edit_model.specs.Gives.{labels_of}
use Rattle.edit_model.specs.Run.{◌>>=◌, answer}
use Rattle.edit_model.proofs.Steps.{steps, labels_of-append}
use Rattle.list_indent.specs.Outdenting.{part_level, part_levels}

-- a way with its end, from the end on
pub reversed_end : (xs : List NodeRef) (x : NodeRef) → reverse (labels_of (xs ++ (x ∷ []))) ≡ x.label ∷ reverse (labels_of xs)
reversed_end xs x = rw (labels_of-append xs (x ∷ []), reverse-append) refl

taken : (xs : List NodeRef) (i : ℕ) → i < length xs →
    reverse (labels_of (take (i + 1) xs)) ≡ (get_or xs i record { slot = 0; label = 0 }).label ∷ reverse (labels_of (take i xs))
taken xs i h = rw (take_more xs i record { slot = 0; label = 0 } h) (reversed_end (take i xs) (get_or xs i record { slot = 0; label = 0 }))

suc-sub-one : (n : ℕ) → suc n - 1 ≡ n
suc-sub-one n = omega arith

pub level_turn : (n : ℕ) (xs : List NodeRef) (k : ℕ) → 0 < k → k ≤ length xs →
    part_levels n (reverse (labels_of (take k xs)))
    ≡ (part_level n (first_in (reverse (labels_of (take (k - 1) xs)))) (get_or xs (k - 1) record { slot = 0; label = 0 }).label
    >>= (λ _. part_levels n (reverse (labels_of (take (k - 1) xs)))))
unfolding part_levels
level_turn n xs zero p h = absurd (omega arith)
level_turn n xs (suc i) p h = rw (suc-sub-one i, ← (add-one i), taken xs i (omega (arith, h))) refl

pub level_end : (n : ℕ) (xs : List NodeRef) (k : ℕ) → k ≤ 0 → part_levels n (reverse (labels_of (take k xs))) ≡ answer tt
unfolding part_levels
level_end n xs zero h = refl
level_end n xs (suc i) h = absurd (omega arith)

pub level_start : (xs : List NodeRef) → take (length xs) xs ≡ xs
level_start xs = take-length xs

pub ruleset levels = (steps, level_turn, level_end, level_start)

-- the member before an index
pub before_none : (xs : List NodeRef) → first_in (reverse (labels_of (take 0 xs))) ≡ None
before_none xs = refl

pub before_some : (xs : List NodeRef) (k : ℕ) → 0 < k → k ≤ length xs → first_in (reverse (labels_of (take k xs))) ≡ Some (get_or xs (k - 1) record { slot = 0; label = 0 }).label
before_some xs zero p h = absurd (omega arith)
before_some xs (suc i) p h = rw (suc-sub-one i, ← (add-one i), taken xs i (omega (arith, h))) refl

pub ruleset befores = (before_none, before_some)
