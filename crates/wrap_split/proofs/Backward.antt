-- The members of a list up to one and with it, from the last member back to the first.
use Rattle.std.proofs.Common.{◌≡◌, ℕ, ◌<◌, ◌≤◌, Bool, true, false, if◌then◌else◌, cond, List, [], ◌∷◌, ◌++◌, length, Option, Some, None, refl, ap, ◌∙◌, inl, inr, arith, eqb}
use Rattle.std.proofs.lemmas.Bool.{ne_eqb}
use Rattle.std.proofs.lemmas.Bool.Decides.{eqb_tells}
use Rattle.std.proofs.lemmas.List.{length_push}
use Rattle.edit_model.specs.DomModel.Forest.{either, times, last_or, last_in, before_from, before_in}
use Rattle.edit_model.proofs.DomModel.Links.{eqb_refl_true}
use Rattle.edit_model.specs.State.{State}
use Rattle.edit_actions.specs.Siblings.{until}
use Rattle.wrap_split.specs.Walks.{is_invisible}
use Rattle.wrap_split.specs.Wrap.{last_visible}

abbrev pub up_to : List ℕ → Option ℕ → List ℕ
up_to xs None = []
up_to xs (Some l) = until l xs ++ (l ∷ [])

abbrev pub IsOnce : List ℕ → Type 0
IsOnce xs = (n : ℕ) → times xs n ≤ 1

one : (x k : ℕ) → x ≡ k → 0 < cond (eqb x k) 1 0
one x k same = rw (same, eqb_refl_true k) (omega arith)

-- ---- the last member

last_there : (x : ℕ) (xs : List ℕ) (k : ℕ) → last_or (Some x) xs ≡ Some k → 0 < times (x ∷ xs) k
last_there x [] k e = let here = one x k (let e' = e in cc) in omega (arith, here)
last_there x (y ∷ ys) k e = let there = last_there y ys k e in omega (arith, there)

last_is : (x : ℕ) (xs : List ℕ) (k : ℕ) → IsOnce (x ∷ xs) → last_or (Some x) xs ≡ Some k → until k (x ∷ xs) ++ (k ∷ []) ≡ x ∷ xs
unfolding until
last_is x [] k once e = let same : x ≡ k = (let e' = e in cc) in rw (same, eqb_refl_true k) refl
last_is x (y ∷ ys) k once e =
    let there = last_there y ys k e in
    let off : eqb x k ≡ false = ne_eqb x k (λ same. let here = one x k same in omega (arith, once k, here, there)) in
    rw off (ap (λ r. x ∷ r) (last_is y ys k (λ n. omega (arith, once n)) e))

some_last : (x : ℕ) (xs : List ℕ) → last_or (Some x) xs ≡ None → ⊥
some_last x [] e = let e' = e in cc
some_last x (y ∷ ys) e = some_last y ys e

pub up_to_last : (xs : List ℕ) → IsOnce xs → up_to xs (last_in xs) ≡ xs
up_to_last [] once = refl
up_to_last (x ∷ xs) once = by_last (last_or (Some x) xs) refl
  where
    by_last : (o : Option ℕ) → last_or (Some x) xs ≡ o → up_to (x ∷ xs) o ≡ x ∷ xs
    by_last None e = absurd (some_last x xs e)
    by_last (Some k) e = last_is x xs k once e

-- ---- the member before one

before_there : (x : ℕ) (xs : List ℕ) (l k : ℕ) → before_from (Some x) xs l ≡ Some k → 0 < times (x ∷ xs) k
before_there x [] l k e = absurd (let e' = e in cc)
before_there x (y ∷ ys) l k e = elim (eqb_tells y l) [
  | inl (t, _) ↦ (
      let e' : Some x ≡ Some k = rw t at e in
      let here = one x k (let d = e' in cc) in
      omega (arith, here))
  | inr (t, _) ↦ (
      let e' = rw t at e in
      let there = before_there y ys l k e' in
      omega (arith, there))
]

before_is : (x : ℕ) (xs : List ℕ) (l k : ℕ) → IsOnce (x ∷ xs) → before_from (Some x) xs l ≡ Some k → until k (x ∷ xs) ++ (k ∷ []) ≡ x ∷ until l xs
unfolding until
before_is x [] l k once e = absurd (let e' = e in cc)
before_is x (y ∷ ys) l k once e = elim (eqb_tells y l) [
  | inl (t, _) ↦ (
      let e' : Some x ≡ Some k = rw t at e in
      let same : x ≡ k = (let d = e' in cc) in
      rw (t, same, eqb_refl_true k) refl)
  | inr (t, _) ↦ (
      let e' = rw t at e in
      let there = before_there y ys l k e' in
      let off : eqb x k ≡ false = ne_eqb x k (λ same. let here = one x k same in omega (arith, once k, here, there)) in
      rw (t, off) (ap (λ r. x ∷ r) (before_is y ys l k (λ n. omega (arith, once n)) e')))
]

some_before : (x : ℕ) (xs : List ℕ) (l : ℕ) → 0 < times xs l → before_from (Some x) xs l ≡ None → ⊥
some_before x [] l here e = omega (arith, here)
some_before x (y ∷ ys) l here e = elim (eqb_tells y l) [
  | inl (t, _) ↦ (let e' : Some x ≡ None = rw t at e in cc)
  | inr (t, _) ↦ (let e' = rw t at e in let here' = rw t at here in some_before y ys l (omega (arith, here')) e')
]

pub up_to_before : (xs : List ℕ) (l : ℕ) → IsOnce xs → 0 < times xs l → up_to xs (before_in xs l) ≡ until l xs
unfolding until
up_to_before [] l once here = absurd (omega (arith, here))
up_to_before (x ∷ xs) l once here = elim (eqb_tells x l) [
  | inl (t, _) ↦ rw t refl
  | inr (t, _) ↦ (let here' = rw t at here in rw t (by_before (omega (arith, here')) (before_from (Some x) xs l) refl))
]
  where
    by_before : 0 < times xs l → (o : Option ℕ) → before_from (Some x) xs l ≡ o → up_to (x ∷ xs) o ≡ x ∷ until l xs
    by_before more None e = absurd (some_before x xs l more e)
    by_before more (Some k) e = before_is x xs l k once e

-- ---- the last visible member

pub last_visible-push : (s : State) (xs : List ℕ) (l : ℕ) → last_visible s (xs ++ (l ∷ [])) ≡ (if is_invisible s l then last_visible s xs else Some l)
unfolding last_visible
last_visible-push s [] l = by (is_invisible s l)
  where
    by : (b : Bool) → either None (if b then None else Some l) ≡ (if b then None else Some l)
    by true = refl
    by false = refl
last_visible-push s (x ∷ xs) l =
    ap (λ o. either o (if is_invisible s x then None else Some x)) (last_visible-push s xs l) ∙ by (is_invisible s l)
  where
    by : (b : Bool) → either (if b then last_visible s xs else Some l) (if is_invisible s x then None else Some x) ≡ (if b then either (last_visible s xs) (if is_invisible s x then None else Some x) else Some l)
    by true = refl
    by false = refl

pub shorter : (xs : List ℕ) (l : ℕ) → length (until l xs) < length (until l xs ++ (l ∷ []))
shorter xs l = let n = length_push (until l xs) l in omega (arith, n)
