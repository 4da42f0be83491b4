-- Which of two siblings comes first, found from the neighbours of both.
use Rattle.std.proofs.Common.{◌≡◌, ◌≢◌, ℕ, ◌+◌, ◌<◌, ◌≤◌, true, false, List, [], ◌∷◌, length, Option, Some, None, refl, sym, ap, ◌∙◌, subst, inl, inr, arith, nat_lt}
use Rattle.std.proofs.lemmas.Bool.Decides.{eqb_tells, nat_tests}
use Rattle.std.specs.Option.{option_map_or, option_and_then}
use Rattle.std.specs.Prelude.{is_some}
use Rattle.dom_model.specs.Forest.{Forest, Seen, times, first_in, after_in, IsDistinct, parent_of, children_of, prev_of, next_of}
use Rattle.dom_model.specs.Places.{place_in, index_of}
use Rattle.node_arena.specs.declared.NodeRef.{NodeRef}
use Rattle.node_arena.specs.Held.{label}
use Rattle.dom_model.proofs.Links.{child_of_parent, times-children_of}
use Rattle.dom_model.proofs.Indexes.{index_of-prev, index_of-first}
use Rattle.dom_model.proofs.Neighbours.{parent_of-next}

-- ---- places in a list

not_none : (k : ℕ) → None ≡ Some k → ⊥
not_none k h = absurd (let h' = h in cc)

-- one more than once is too often
apart : (x k : ℕ) (xs : List ℕ) → times (x ∷ xs) k ≤ 1 → 0 < times xs k → x ≢ k
apart x k xs once some is = elim (eqb_tells x k) [ inl (t, _) ↦ (let once' = rw t at once in omega (arith, once', some)) | inr (_, off) ↦ off is ]

place_first : (x k : ℕ) (xs : List ℕ) → x ≡ k → place_in (x ∷ xs) k ≡ 0
place_first x k xs is = elim (eqb_tells x k) [ inl (t, _) ↦ rw t refl | inr (_, off) ↦ absurd (off is) ]

place_later : (x k : ℕ) (xs : List ℕ) → x ≢ k → place_in (x ∷ xs) k ≡ place_in xs k + 1
place_later x k xs off = elim (eqb_tells x k) [ inl (_, is) ↦ absurd (off is) | inr (t, _) ↦ rw t (omega arith) ]

place_low : (xs : List ℕ) (l : ℕ) → 0 < times xs l → place_in xs l < length xs
place_low [] l some = absurd (omega (arith, some))
place_low (x ∷ xs) l some = elim (eqb_tells x l) [
  | inl (_, is) ↦ omega (arith, place_first x l xs is)
  | inr (t, off) ↦ (let some' = rw t at some in omega (arith, place_later x l xs off, place_low xs l (omega (arith, some'))))
]

fewer : (x : ℕ) (xs : List ℕ) → ((j : ℕ) → times (x ∷ xs) j ≤ 1) → (j : ℕ) → times xs j ≤ 1
fewer x xs once j = omega (arith, once j)

place_after : (xs : List ℕ) (l k : ℕ) → ((j : ℕ) → times xs j ≤ 1) → after_in xs l ≡ Some k → (0 < times xs k) × (place_in xs k ≡ place_in xs l + 1)
place_after [] l k once h = absurd (not_none k h)
place_after (x ∷ xs) l k once h = elim (eqb_tells x l) [
  | inl (t, is) ↦ by_rest xs (λ j. once j) is (rw t at h)
  | inr (t, off) ↦ (
      let r = place_after xs l k (fewer x xs once) (rw t at h) in
      (omega (arith, r.0), omega (arith, r.1, place_later x l xs off, place_later x k xs (apart x k xs (once k) r.0))))
]
  where
    by_rest : (ys : List ℕ) → ((j : ℕ) → times (x ∷ ys) j ≤ 1) → x ≡ l → first_in ys ≡ Some k → (0 < times (x ∷ ys) k) × (place_in (x ∷ ys) k ≡ place_in (x ∷ ys) l + 1)
    by_rest [] once' is h' = absurd (not_none k h')
    by_rest (y ∷ ys) once' is h' =
        let same : y ≡ k = (let u = h' in cc) in
        let some : 0 < times (y ∷ ys) k = elim (eqb_tells y k) [ inl (u, _) ↦ rw u (omega arith) | inr (_, off) ↦ absurd (off same) ] in
        (omega (arith, some), omega (arith, place_first x l (y ∷ ys) is, place_later x k (y ∷ ys) (apart x k (y ∷ ys) (once' k) some), place_first y k ys same))

place_end : (xs : List ℕ) (l : ℕ) → 0 < times xs l → after_in xs l ≡ None → place_in xs l + 1 ≡ length xs
place_end [] l some h = absurd (omega (arith, some))
place_end (x ∷ xs) l some h = elim (eqb_tells x l) [
  | inl (t, is) ↦ (let none = no_rest xs (rw t at h) in omega (arith, none, place_first x l xs is))
  | inr (t, off) ↦ (let some' = rw t at some in omega (arith, place_later x l xs off, place_end xs l (omega (arith, some')) (rw t at h)))
]
  where
    no_rest : (ys : List ℕ) → first_in ys ≡ None → length ys ≡ 0
    no_rest [] h' = refl
    no_rest (y ∷ ys) h' = absurd (let u : None ≡ Some y = sym h' in not_none y u)

-- ---- siblings

pub earlier : (i j : ℕ) → i < j → nat_lt i j ≡ true
earlier i j h = grind (arith, nat_tests)

pub later : (i j : ℕ) → j ≤ i → nat_lt i j ≡ false
later i j h = grind (arith, nat_tests)

pub not_lower : (i j : ℕ) → nat_lt i j ≡ false → j ≤ i
not_lower i j h = grind (arith, nat_tests)

module _ {C : Type 0} (f : Forest C) (once : IsDistinct f) where
  index_is : (l p : ℕ) → parent_of f l ≡ Some p → index_of f l ≡ place_in (children_of f p) l
  index_is l p child = ap (λ o. option_map_or (λ q. place_in (children_of f q) l) o 0) child

  among : (l p : ℕ) → parent_of f l ≡ Some p → 0 < times (children_of f p) l
  among l p child =
      let r = child_of_parent f l p once child in
      let kids : children_of f p ≡ r.0.children = ap (λ o. option_map_or (λ (s : Seen C). s.children) o []) r.2 in
      subst (λ xs. 0 < times xs l) (sym kids) r.3

  next_in : (l p : ℕ) → parent_of f l ≡ Some p → next_of f l ≡ after_in (children_of f p) l
  next_in l p child = ap (option_and_then (λ q. after_in (children_of f q) l)) child

  pub index_low : (l p : ℕ) → parent_of f l ≡ Some p → index_of f l < length (children_of f p)
  index_low l p child = omega (arith, index_is l p child, place_low (children_of f p) l (among l p child))

  pub index_next : (l k p : ℕ) → parent_of f l ≡ Some p → next_of f l ≡ Some k → index_of f k ≡ index_of f l + 1
  index_next l k p child e =
      let r = place_after (children_of f p) l k (λ j. times-children_of f p j once) (sym (next_in l p child) ∙ e) in
      omega (arith, r.1, index_is l p child, index_is k p (parent_of-next f once l k p child e))

  pub index_end : (l p : ℕ) → parent_of f l ≡ Some p → next_of f l ≡ None → index_of f l + 1 ≡ length (children_of f p)
  index_end l p child e = omega (arith, index_is l p child, place_end (children_of f p) l (among l p child) (sym (next_in l p child) ∙ e))

  -- a sibling is later by as many as stand before another
  pub told_by_prev : (r : Option NodeRef) (l i j : ℕ) → label r ≡ prev_of f l → index_of f l + i ≡ j → is_some r ≡ nat_lt i j
  told_by_prev None l i j e h = sym (later i j (omega (arith, h, index_of-first f once l (sym e))))
  told_by_prev (Some n) l i j e h = sym (earlier i j (omega (arith, h, index_of-prev f once l n.label (sym e))))
