-- Names that differ are told apart by their positions in a list.
use Rattle.std.proofs.Common.{◌≡◌, ℕ, suc, zero, ◌+◌, ◌<◌, Bool, true, false, not, cond, ◌||◌, List, [], ◌∷◌, ◌++◌, length, get_or, map, position, Some, None, refl, sym, ap, ◌∙◌, arith, nat_eq, nat_lt, true≢false}
use Rattle.std.specs.List.{list_any, position_or_len, IsDistinct, AllByRecursion, All}
use Rattle.std.specs.Map.{keys_of}
use Rattle.std.specs.Str.{bytes_eq}
use Rattle.std.proofs.lemmas.List.{length-append}
use Rattle.std.proofs.lemmas.List.Folds.{list_any-append}
use Rattle.std.proofs.lemmas.Bool.Decides.{same_from_decides, Decides-like, Decides-eqb, nat_tests}
use Rattle.std.proofs.lemmas.Map.Made.{AllPairs-from_IsDistinct}
use Rattle.std.proofs.lemmas.List.Quantifiers.{position-Some}
use Rattle.std.proofs.lemmas.Slice.Eq.{bytes_eq-Decides}
use Rattle.live_range.specs.declared.places.MarkPlace.{MarkPlace}
use Rattle.live_range.specs.Names.{named}

pub All-head : {X : Type 0} (P : X → Type 0) (x : X) (xs : List X) → All P (x ∷ xs) → P x
All-head P x xs h = h 0 x (omega arith)

pub All-tail : {X : Type 0} (P : X → Type 0) (x : X) (xs : List X) → All P (x ∷ xs) → All P xs
All-tail P x xs h = λ k d l. h (suc k) d (omega (arith, l))

module _ (ns : List (List ℕ)) (apart : IsDistinct bytes_eq ns) where
  one_place : (i j : ℕ) → i < length ns → j < length ns → get_or ns i [] ≡ get_or ns j [] → i ≡ j
  one_place i j hi hj same =
      let pairs = AllPairs-from_IsDistinct bytes_eq-Decides ns apart in
      let below : i < j → ⊥ = λ l. pairs i j [] l hj same in
      let above : j < i → ⊥ = λ l. pairs j i [] l hi (sym same) in
      grind (arith, below, above)

  pub names_apart : (i j : ℕ) → i < length ns → j < length ns → bytes_eq (get_or ns i []) (get_or ns j []) ≡ nat_eq i j
  names_apart i j hi hj =
      same_from_decides _ _
      (Decides-like _ (one_place i j hi hj) (λ e. ap (λ k. get_or ns k []) e) (bytes_eq-Decides (get_or ns i []) (get_or ns j [])))
      (Decides-eqb i j)

  -- the mark at a position has the name that stands at the position, and no other
  pub known_name : (name : List ℕ) (i j : ℕ) → position (bytes_eq name) ns ≡ Some i → j < length ns → bytes_eq name (get_or ns j []) ≡ nat_eq i j
  known_name name i j at hj =
      let found = position-Some (bytes_eq name) ns i [] at in
      let same : name ≡ get_or ns i [] = (bytes_eq-Decides name (get_or ns i [])).0 found.1 in
      ap (λ n. bytes_eq n (get_or ns j [])) same ∙ names_apart i j found.0 hj

  heads : (x : MarkPlace) (xs : List MarkPlace) → x.name < length ns → All (λ m. m.name < length ns) xs
      → AllByRecursion (λ y. nat_eq x.name y ≡ false) (map (λ m. m.name) xs)
      → AllByRecursion (λ y. bytes_eq (get_or ns x.name []) y ≡ false) (keys_of (map (named ns) xs))
  heads x [] hx met h = tt
  heads x (y ∷ ys) hx met h =
      let here = All-head (λ m. m.name < length ns) y ys met in
      let there = All-tail (λ m. m.name < length ns) y ys met in
      (names_apart x.name y.name hx here ∙ h.0, heads x ys hx there h.1)

  pub distinct_keys : (xs : List MarkPlace) → All (λ m. m.name < length ns) xs → IsDistinct nat_eq (map (λ m. m.name) xs) → IsDistinct bytes_eq (keys_of (map (named ns) xs))
  unfolding IsDistinct
  distinct_keys [] met h = tt
  distinct_keys (x ∷ xs) met h =
      let here = All-head (λ m. m.name < length ns) x xs met in
      let there = All-tail (λ m. m.name < length ns) x xs met in
      (heads x xs here there h.0, distinct_keys xs there h.1)

some_is_no_none : (i : ℕ) → Some i ≡ None → ⊥
some_is_no_none i h = cc

position-any : {X : Type 0} (p : X → Bool) (xs : List X) → nat_lt (position_or_len p xs) (length xs) ≡ list_any p xs
position-any p [] = refl
position-any p (x ∷ xs) = by (p x) (position-any p xs)
  where
    by : (b : Bool) → nat_lt (position_or_len p xs) (length xs) ≡ list_any p xs
        → nat_lt (cond (not b) (1 + position_or_len p xs) 0) (suc (length xs)) ≡ (b || list_any p xs)
    by true h = grind (arith, nat_tests)
    by false h = grind (arith, nat_tests)

pub position-None : {X : Type 0} (p : X → Bool) (xs : List X) → position p xs ≡ None → list_any p xs ≡ false
position-None p xs h = by (nat_lt (position_or_len p xs) (length xs)) refl
  where
    by : (b : Bool) → nat_lt (position_or_len p xs) (length xs) ≡ b → list_any p xs ≡ false
    by true e = absurd (some_is_no_none _ (sym (ap (λ c. cond c (Some (position_or_len p xs)) None) e) ∙ h))
    by false e = sym (position-any p xs) ∙ e

pub position-absent : {X : Type 0} (p : X → Bool) (xs : List X) → list_any p xs ≡ false → position p xs ≡ None
position-absent p xs h = ap (λ c. cond c (Some (position_or_len p xs)) None) (position-any p xs ∙ h)

pub position-found : {X : Type 0} (p : X → Bool) (xs : List X) (k : ℕ) → position p xs ≡ Some k → list_any p xs ≡ true
position-found p xs k h = by (list_any p xs) refl
  where
    by : (b : Bool) → list_any p xs ≡ b → list_any p xs ≡ true
    by true e = e
    by false e = absurd (some_is_no_none k (sym h ∙ position-absent p xs e))

prefix_len-congr : {X : Type 0} (p q : X → Bool) (xs : List X) → All (λ x. p x ≡ q x) xs → position_or_len p xs ≡ position_or_len q xs
prefix_len-congr p q [] h = refl
prefix_len-congr p q (x ∷ xs) h =
    let here = All-head (λ x. p x ≡ q x) x xs h in
    let there = prefix_len-congr p q xs (All-tail (λ x. p x ≡ q x) x xs h) in
    λ i. cond (not (here i)) (1 + there i) 0

pub position-congr : {X : Type 0} (p q : X → Bool) (xs : List X) → All (λ x. p x ≡ q x) xs → position p xs ≡ position q xs
position-congr p q xs h = ap (λ k. cond (nat_lt k (length xs)) (Some k) None) (prefix_len-congr p q xs h)

end : {X : Type 0} (p : X → Bool) (xs : List X) (y : X) → list_any p xs ≡ false → p y ≡ true → position_or_len p (xs ++ y ∷ []) ≡ length xs
end p [] y none here = ap (λ b. cond (not b) (1 + 0) 0) here
end p (x ∷ xs) y none here = by (p x) none (λ n. end p xs y n here)
  where
    by : (b : Bool) → (b || list_any p xs) ≡ false → (list_any p xs ≡ false → position_or_len p (xs ++ y ∷ []) ≡ length xs)
        → cond (not b) (1 + position_or_len p (xs ++ y ∷ [])) 0 ≡ suc (length xs)
    by true n rest = absurd (true≢false n)
    by false n rest = omega (arith, rest n)

-- the first to pass is the last of the list
pub position-push : {X : Type 0} (p : X → Bool) (xs : List X) (y : X) → list_any p xs ≡ false → p y ≡ true → position p (xs ++ y ∷ []) ≡ Some (length xs)
position-push p xs y none here =
    let n = end p xs y none here in
    let l : nat_lt (length xs) (length (xs ++ y ∷ [])) ≡ true = grind (arith, nat_tests, length-append xs (y ∷ [])) in
    ap (λ k. cond (nat_lt k (length (xs ++ y ∷ []))) (Some k) None) n ∙ ap (λ b. cond b (Some (length xs)) None) l

position-there : {X : Type 0} (p : X → Bool) (xs : List X) → list_any p xs ≡ true → position p xs ≡ Some (position_or_len p xs)
position-there p xs h = ap (λ c. cond c (Some (position_or_len p xs)) None) (position-any p xs ∙ h)

begun : {X : Type 0} (p : X → Bool) (xs ys : List X) → list_any p xs ≡ true → position_or_len p (xs ++ ys) ≡ position_or_len p xs
begun p [] ys h = absurd (true≢false (sym h))
begun p (x ∷ xs) ys h = by (p x) h (begun p xs ys)
  where
    by : (b : Bool) → (b || list_any p xs) ≡ true → (list_any p xs ≡ true → position_or_len p (xs ++ ys) ≡ position_or_len p xs)
        → cond (not b) (1 + position_or_len p (xs ++ ys)) 0 ≡ cond (not b) (1 + position_or_len p xs) 0
    by true t more = refl
    by false t more = ap (λ n. 1 + n) (more t)

-- a last one that doesn't pass changes nothing
pub position-skip : {X : Type 0} (p : X → Bool) (xs : List X) (y : X) → p y ≡ false → position p (xs ++ y ∷ []) ≡ position p xs
position-skip p xs y other = by (list_any p xs) refl
  where
    by : (b : Bool) → list_any p xs ≡ b → position p (xs ++ y ∷ []) ≡ position p xs
    by true h =
        position-there p (xs ++ y ∷ []) (list_any-append p xs (y ∷ []) ∙ ap (λ b. b || (p y || false)) h)
        ∙ ap Some (begun p xs (y ∷ []) h)
        ∙ sym (position-there p xs h)
    by false h =
        position-absent p (xs ++ y ∷ []) (list_any-append p xs (y ∷ []) ∙ ap (λ b. b || (p y || false)) h ∙ ap (λ b. b || false) other)
        ∙ sym (position-absent p xs h)

pub unknown_name : (name : List ℕ) (ns : List (List ℕ)) (j : ℕ) → list_any (bytes_eq name) ns ≡ false → j < length ns → bytes_eq name (get_or ns j []) ≡ false
unknown_name name [] j none h = absurd (omega (arith, h))
unknown_name name (n ∷ ns) zero none h = grind (arith, none)
unknown_name name (n ∷ ns) (suc j) none h = unknown_name name ns j (grind (arith, none)) (omega (arith, h))
