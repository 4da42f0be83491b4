-- Lists under map: positions, and the step of a loop that changes every element in turn.
use Rattle.std.proofs.Common.{◌≡◌, ℕ, suc, zero, ◌+◌, ◌<◌, Bool, not, ◌||◌, List, [], ◌∷◌, ◌++◌, length, get_or, set, take, drop, map, position, refl, ap, ◌∙◌, add-one, arith}
use Rattle.std.proofs.lemmas.List.{length-map}
use Rattle.std.specs.List.{list_any, prefix_len}

module _ {X Y : Type 0} (f : X → Y) where
  pub prefix_len-map : (p : Y → Bool) (xs : List X) → prefix_len p (map f xs) ≡ prefix_len (λ x. p (f x)) xs
  prefix_len-map p [] = refl
  prefix_len-map p (x ∷ xs) = rw (prefix_len-map p xs) refl

  pub position-map : (p : Y → Bool) (xs : List X) → position p (map f xs) ≡ position (λ x. p (f x)) xs
  position-map p xs = rw (prefix_len-map (λ y. not (p y)) xs, length-map xs f) refl

  pub list_any-map : (p : Y → Bool) (xs : List X) → list_any p (map f xs) ≡ list_any (λ x. p (f x)) xs
  list_any-map p [] = refl
  list_any-map p (x ∷ xs) = ap (λ b. p (f x) || b) (list_any-map p xs)

-- the first i elements are changed, and the others not yet
abbrev pub changed_below : {X : Type 0} → (X → X) → List X → ℕ → List X
changed_below f xs i = map f (take i xs) ++ drop i xs

module _ {X : Type 0} (f : X → X) where
  pub get_or-changed_below : (xs : List X) (i : ℕ) (d : X) → get_or (changed_below f xs i) i d ≡ get_or xs i d
  get_or-changed_below [] zero d = refl
  get_or-changed_below [] (suc i) d = refl
  get_or-changed_below (x ∷ xs) zero d = refl
  get_or-changed_below (x ∷ xs) (suc i) d = get_or-changed_below xs i d

  changed_below-suc : (xs : List X) (i : ℕ) (d : X) → i < length xs → set (changed_below f xs i) i (f (get_or xs i d)) ≡ changed_below f xs (suc i)
  changed_below-suc [] i d h = absurd (omega (arith, h))
  changed_below-suc (x ∷ xs) zero d h = refl
  changed_below-suc (x ∷ xs) (suc i) d h = ap (λ r. f x ∷ r) (changed_below-suc xs i d (omega (arith, h)))

  pub changed_below-step : (xs : List X) (i : ℕ) (d : X) → i < length xs → set (changed_below f xs i) i (f (get_or xs i d)) ≡ changed_below f xs (i + 1)
  changed_below-step xs i d h = rw add-one (changed_below-suc xs i d h)

  pub changed_below-write : (xs ys : List X) (i : ℕ) (d y : X) → i < length ys → xs ≡ changed_below f ys i → y ≡ f (get_or xs i d) → set xs i y ≡ changed_below f ys (i + 1)
  changed_below-write xs ys i d y h is same =
      ap (λ z. set xs i z) same
      ∙ ap (λ zs. set zs i (f (get_or zs i d))) is
      ∙ ap (λ z. set (changed_below f ys i) i (f z)) (get_or-changed_below ys i d)
      ∙ changed_below-step ys i d h

  pub changed_below-all : (xs : List X) → changed_below f xs (length xs) ≡ map f xs
  changed_below-all [] = refl
  changed_below-all (x ∷ xs) = ap (λ r. f x ∷ r) (changed_below-all xs)
