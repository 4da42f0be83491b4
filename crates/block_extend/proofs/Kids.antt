-- The children of a node by their indexes, and the siblings beside each.
use Rattle.std.proofs.Common.{◌≡◌, ℕ, zero, suc, ◌+◌, ◌<◌, ◌≤◌, List, [], ◌∷◌, Option, Some, None, refl, sym, ap, ◌∙◌, inl, inr, arith, add-one}
use Rattle.std.specs.Prelude.{slice_get}
use Rattle.std.specs.Option.{option_map_or, option_and_then}
use Rattle.std.proofs.lemmas.Bool.Decides.{eqb_tells}
use Rattle.node_paths.specs.DomModel.declared.Content.{Content}
use Rattle.node_paths.specs.DomModel.Forest.{Forest, Seen, seek, IsDistinct, times, first_in, before_from, before_in, after_in, parent_of, children_of, first_of, prev_of, next_of}
use Rattle.node_paths.specs.DomModel.Places.{place_in, index_of}
use Rattle.node_paths.proofs.DomModel.Links.{parent_of_child, found_stands, child_of_parent, times-children_of}
use Rattle.node_tests.specs.BlockPoints.{child_before, child_at}

-- ---- lists

-- the element before an index, where o stands before the list
abbrev preceding : Option ℕ → List ℕ → ℕ → Option ℕ
preceding o xs zero = o
preceding o xs (suc i) = slice_get xs i

cons : (x : ℕ) (xs : List ℕ) (i : ℕ) → slice_get (x ∷ xs) i ≡ preceding (Some x) xs i
cons x xs zero = refl
cons x xs (suc i) = refl

before_is : (f : Forest Content) (l i : ℕ) → child_before f l i ≡ preceding None (children_of f l) i
before_is f l zero = refl
before_is f l (suc i) = refl

first_get : (xs : List ℕ) → slice_get xs 0 ≡ first_in xs
first_get [] = refl
first_get (x ∷ xs) = refl

get_times : (xs : List ℕ) (i k : ℕ) → slice_get xs i ≡ Some k → 0 < times xs k
get_times [] i k e = absurd (let t = e in cc)
get_times (x ∷ xs) zero k e =
    let is : x ≡ k = (let t = e in cc) in
    elim (eqb_tells x k) [ inl (t, _) ↦ rw t (omega arith) | inr (_, off) ↦ absurd (off is) ]
get_times (x ∷ xs) (suc i) k e = omega (arith, get_times xs i k e)

place_is : (xs : List ℕ) (i k : ℕ) → ((j : ℕ) → times xs j ≤ 1) → slice_get xs i ≡ Some k → place_in xs k ≡ i
place_is [] i k once e = absurd (let t = e in cc)
place_is (x ∷ xs) zero k once e =
    let is : x ≡ k = (let t = e in cc) in
    elim (eqb_tells x k) [ inl (t, _) ↦ rw t refl | inr (_, off) ↦ absurd (off is) ]
place_is (x ∷ xs) (suc i) k once e =
    elim (eqb_tells x k) [
      | inl (t, _) ↦ absurd (let one = rw t at (once k) in omega (arith, one, get_times xs i k e))
      | inr (t, _) ↦ rw (t, add-one) (ap suc (place_is xs i k (λ j. omega (arith, once j)) e))
    ]

at_place : (xs : List ℕ) (l : ℕ) → 0 < times xs l → slice_get xs (place_in xs l) ≡ Some l
at_place [] l h = absurd (omega (arith, h))
at_place (x ∷ xs) l h =
    elim (eqb_tells x l) [
      | inl (t, is) ↦ rw t (ap Some is)
      | inr (t, _) ↦ (let h' = rw t at h in rw (t, add-one) (at_place xs l (omega (arith, h'))))
    ]

before_place : (o : Option ℕ) (xs : List ℕ) (l : ℕ) → 0 < times xs l → preceding o xs (place_in xs l) ≡ before_from o xs l
before_place o [] l h = absurd (omega (arith, h))
before_place o (x ∷ xs) l h =
    elim (eqb_tells x l) [
      | inl (t, _) ↦ rw t refl
      | inr (t, _) ↦ (let h' = rw t at h in rw (t, add-one) (cons x xs (place_in xs l) ∙ before_place (Some x) xs l (omega (arith, h'))))
    ]

after_place : (xs : List ℕ) (l : ℕ) → 0 < times xs l → slice_get xs (suc (place_in xs l)) ≡ after_in xs l
after_place [] l h = absurd (omega (arith, h))
after_place (x ∷ xs) l h =
    elim (eqb_tells x l) [
      | inl (t, _) ↦ rw t (first_get xs)
      | inr (t, _) ↦ (let h' = rw t at h in rw (t, add-one) (after_place xs l (omega (arith, h'))))
    ]

-- ---- children

module _ (f : Forest Content) (once : IsDistinct f) where
  -- a child of an index
  module _ (p i k : ℕ) (at : child_at f p i ≡ Some k) where
    pub kid_parent : parent_of f k ≡ Some p
    kid_parent = by_seen (seek None f p) refl (get_times (children_of f p) i k at)
      where
        by_seen : (x : Option (Seen Content)) → seek None f p ≡ x → 0 < times (option_map_or (λ (s : Seen Content). s.children) x []) k → parent_of f k ≡ Some p
        by_seen None e h = absurd (omega (arith, h))
        by_seen (Some s) e h = parent_of_child f p k s once (found_stands f p s once e) h

    place : place_in (children_of f p) k ≡ i
    place = place_is (children_of f p) i k (λ j. times-children_of f p j once) at

    pub kid_next : next_of f k ≡ child_at f p (i + 1)
    kid_next =
        ap (option_and_then (λ q. after_in (children_of f q) k)) kid_parent
        ∙ sym (after_place (children_of f p) k (get_times (children_of f p) i k at))
        ∙ ap (λ n. slice_get (children_of f p) (suc n)) place
        ∙ rw add-one refl

    pub kid_prev : prev_of f k ≡ child_before f p i
    kid_prev =
        ap (option_and_then (λ q. before_in (children_of f q) k)) kid_parent
        ∙ sym (before_place None (children_of f p) k (get_times (children_of f p) i k at))
        ∙ ap (preceding None (children_of f p)) place
        ∙ sym (before_is f p i)

  -- a node and its parent
  module _ (k p : ℕ) (child : parent_of f k ≡ Some p) where
    among : 0 < times (children_of f p) k
    among =
        let r = child_of_parent f k p once child in
        let same : children_of f p ≡ r.0.children = ap (λ o. option_map_or (λ (s : Seen Content). s.children) o []) r.2 in
        rw same r.3

    index : index_of f k ≡ place_in (children_of f p) k
    index = ap (λ o. option_map_or (λ q. place_in (children_of f q) k) o 0) child

    pub own_index : child_at f p (index_of f k) ≡ Some k
    own_index = ap (slice_get (children_of f p)) index ∙ at_place (children_of f p) k among

  -- the child before an offset is the one at the offset less one
  pub before_at : (p i : ℕ) → 0 < i → (j : ℕ) → i ≡ j + 1 → child_before f p i ≡ child_at f p j
  before_at p i some j e = rw (e, add-one) refl
