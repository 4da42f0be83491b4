-- The canonical space sequence by its count, and lists that grow at their end.
use Rattle.std.proofs.Common.{◌≡◌, ℕ, zero, suc, ◌-◌, ◌<◌, Bool, ◌||◌, ◌&&◌, not, List, [], ◌∷◌, ◌++◌, refl, ap, arith}
use Rattle.delete_core.specs.Spaces.{hard_if, canonical_spaces}

pub no_spaces : (n : ℕ) (start end : Bool) → n ≡ 0 → canonical_spaces n start end ≡ []
unfolding canonical_spaces
no_spaces n start end is = rw is refl

pub one_space_is : (n : ℕ) (start end : Bool) → n ≡ 1 → canonical_spaces n start end ≡ hard_if (start || end) ∷ []
unfolding canonical_spaces
one_space_is n start end is = rw is refl

pub two_spaces_are : (n : ℕ) (start end : Bool) → n ≡ 2 → canonical_spaces n start end ≡ hard_if (start || not end) ∷ hard_if end ∷ []
unfolding canonical_spaces
two_spaces_are n start end is = rw is refl

pub three_spaces_are : (n : ℕ) (start end : Bool) → n ≡ 3 → canonical_spaces n start end ≡ hard_if start ∷ hard_if (not (start && end)) ∷ hard_if end ∷ []
unfolding canonical_spaces
three_spaces_are n start end is = rw is refl

pub more_spaces_are : (n : ℕ) (start end : Bool) → 3 < n → canonical_spaces n start end ≡ hard_if start ∷ hard_if (not start) ∷ canonical_spaces (n - 2) start end
unfolding canonical_spaces
more_spaces_are zero start end h = absurd (omega arith)
more_spaces_are (suc zero) start end h = absurd (omega arith)
more_spaces_are (suc (suc zero)) start end h = absurd (omega arith)
more_spaces_are (suc (suc (suc zero))) start end h = absurd (omega arith)
more_spaces_are (suc (suc (suc (suc n)))) start end h =
    let e : suc (suc (suc (suc n))) - 2 ≡ suc (suc n) = omega arith in rw e refl

pub ruleset counts = (no_spaces, one_space_is, two_spaces_are, three_spaces_are, more_spaces_are)

pub push_push : (xs : List ℕ) (x : ℕ) (ys : List ℕ) → (xs ++ x ∷ []) ++ ys ≡ xs ++ x ∷ ys
push_push [] x ys = refl
push_push (z ∷ xs) x ys = ap (λ r. z ∷ r) (push_push xs x ys)

pub push_pair : (xs : List ℕ) (x y : ℕ) (ys : List ℕ) → (xs ++ x ∷ y ∷ []) ++ ys ≡ xs ++ x ∷ y ∷ ys
push_pair [] x y ys = refl
push_pair (z ∷ xs) x y ys = ap (λ r. z ∷ r) (push_pair xs x y ys)

pub nothing_pushed : (xs : List ℕ) → xs ++ [] ≡ xs
nothing_pushed [] = refl
nothing_pushed (z ∷ xs) = ap (λ r. z ∷ r) (nothing_pushed xs)

pub ruleset pushes = (push_push, push_pair, nothing_pushed)
