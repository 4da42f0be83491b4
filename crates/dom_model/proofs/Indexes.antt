-- The index of a node goes down by one with each earlier sibling, and the last child's tells the length.
use Rattle.std.proofs.Common.{◌≡◌, ◌≢◌, ◌⊎◌, ℕ, ◌+◌, ◌<◌, ◌≤◌, List, [], ◌∷◌, length, Option, Some, None, refl, sym, ap, subst, ◌∙◌, inl, inr, arith}
use Rattle.std.proofs.lemmas.Bool.Decides.{eqb_tells}
use Rattle.std.specs.Option.{option_map_or, option_and_then}
use Rattle.dom_model.specs.Forest.{Forest, Seen, tops, total, IsDistinct, seek, parent_of, children_of, last_of, prev_of, before_from, before_in, last_or, last_in, times}
use Rattle.dom_model.specs.Forest.Forest.{Nil, Tree}
use Rattle.dom_model.specs.Places.{place_in, index_of}
use Rattle.dom_model.proofs.Stands.{Stands}
use Rattle.dom_model.proofs.Links.{times-children_of, child_of_parent, parent_of_child, found_stands}

place_head : (x l : ℕ) (xs : List ℕ) → x ≡ l → place_in (x ∷ xs) l ≡ 0
place_head x l xs is = elim (eqb_tells x l) [ inl (t, _) ↦ rw t refl | inr (_, off) ↦ absurd (off is) ]

place_tail : (x l : ℕ) (xs : List ℕ) → x ≢ l → place_in (x ∷ xs) l ≡ place_in xs l + 1
place_tail x l xs off = elim (eqb_tells x l) [ inl (_, is) ↦ absurd (off is) | inr (t, _) ↦ rw t refl ]

-- the place of the label before
place-before_from : (o : Option ℕ) (xs : List ℕ) (l q : ℕ) → ((k : ℕ) → times xs k ≤ 1) → before_from o xs l ≡ Some q → ((o ≡ Some q) × (place_in xs l ≡ 0)) ⊎ ((0 < times xs q) × (place_in xs l ≡ place_in xs q + 1))
place-before_from o [] l q once e = absurd (let e' = e in cc)
place-before_from o (x ∷ xs) l q once e =
    elim (eqb_tells x l) [
      | inl (t, is) ↦ inl (rw t at e, place_head x l xs is)
      | inr (t, off) ↦ (
          let e' = rw t at e in
          let later : (k : ℕ) → times xs k ≤ 1 = λ k. (let h = once k in omega (arith, h)) in
          elim (place-before_from (Some x) xs l q later e') [
            | inl (at, first) ↦ (
                let is : x ≡ q = (let a = at in cc) in
                inr (elim (eqb_tells x q) [ inl (u, _) ↦ rw u (omega arith) | inr (_, isnt) ↦ absurd (isnt is) ], omega (arith, place_tail x l xs off, first, place_head x q xs is)))
            | inr (some, more) ↦ (
                let apart : x ≢ q = λ is. (let h = once q in elim (eqb_tells x q) [ inl (u, _) ↦ (let h' = rw u at h in omega (arith, h', some)) | inr (_, isnt) ↦ isnt is ]) in
                inr (omega (arith, some), omega (arith, place_tail x l xs off, place_tail x q xs apart, more)))
          ])
    ]

place-before_none : (o : Option ℕ) (xs : List ℕ) (l : ℕ) → before_from o xs l ≡ None → 0 < times xs l → place_in xs l ≡ 0
place-before_none o [] l e some = absurd (omega (arith, some))
place-before_none o (x ∷ xs) l e some =
    elim (eqb_tells x l) [
      | inl (_, is) ↦ place_head x l xs is
      | inr (t, off) ↦ absurd (let e' = rw t at e in let some' = rw t at some in never x xs l e' (omega (arith, some')))
    ]
  where
    never : (y : ℕ) (xs : List ℕ) (l : ℕ) → before_from (Some y) xs l ≡ None → 0 < times xs l → ⊥
    never y [] l e some = omega (arith, some)
    never y (x ∷ xs) l e some =
        elim (eqb_tells x l) [
          | inl (t, _) ↦ (let e' = rw t at e in let k : Some y ≡ None = e' in cc)
          | inr (t, _) ↦ (let e' = rw t at e in let some' = rw t at some in never x xs l e' (omega (arith, some')))
        ]

place-last_or : (o : Option ℕ) (xs : List ℕ) (k : ℕ) → ((j : ℕ) → times xs j ≤ 1) → last_or o xs ≡ Some k → ((xs ≡ []) × (o ≡ Some k)) ⊎ ((0 < times xs k) × (length xs ≡ place_in xs k + 1))
place-last_or o [] k once e = inl (refl, e)
place-last_or o (x ∷ xs) k once e =
    let later : (j : ℕ) → times xs j ≤ 1 = λ j. (let h = once j in omega (arith, h)) in
    elim (place-last_or (Some x) xs k later e) [
      | inl (none, at) ↦ (
          let is : x ≡ k = (let a = at in cc) in
          inr (elim (eqb_tells x k) [ inl (u, _) ↦ rw u (omega arith) | inr (_, isnt) ↦ absurd (isnt is) ], omega (arith, place_head x k xs is, ap length none)))
      | inr (some, more) ↦ (
          let apart : x ≢ k = λ is. (let h = once k in elim (eqb_tells x k) [ inl (u, _) ↦ (let h' = rw u at h in omega (arith, h', some)) | inr (_, isnt) ↦ isnt is ]) in
          inr (omega (arith, some), omega (arith, place_tail x k xs apart, more)))
    ]

last_or_none : (o : Option ℕ) (xs : List ℕ) → last_or o xs ≡ None → xs ≡ []
last_or_none o [] e = refl
last_or_none o (x ∷ xs) e = absurd (never x xs e)
  where
    never : (y : ℕ) (xs : List ℕ) → last_or (Some y) xs ≡ None → ⊥
    never y [] e = (let k : Some y ≡ None = e in cc)
    never y (x ∷ xs) e = never x xs e

place_low : (xs : List ℕ) (l : ℕ) → 0 < times xs l → place_in xs l < length xs
place_low [] l some = absurd (omega (arith, some))
place_low (x ∷ xs) l some = elim (eqb_tells x l) [
  | inl (_, is) ↦ omega (arith, place_head x l xs is)
  | inr (t, off) ↦ (let some' = rw t at some in omega (arith, place_tail x l xs off, place_low xs l (omega (arith, some'))))
]

module _ {C : Type 0} where
  length-tops : (f : Forest C) → length (tops f) ≤ total (λ _ _. 1) f
  length-tops Nil = omega arith
  length-tops (Tree m c ks rest) = omega (arith, length-tops rest)

  length-Stands : (q : Option ℕ) (f : Forest C) (l : ℕ) (s : Seen C) → Stands q f l s → length s.children < total (λ _ _. 1) f
  length-Stands q Nil l s h = absurd h
  length-Stands q (Tree m c ks rest) l s (inl (_, e)) = omega (arith, length-tops ks, ap (λ (x : Seen C). length x.children) e)
  length-Stands q (Tree m c ks rest) l s (inr (inl h)) = omega (arith, length-Stands (Some m) ks l s h)
  length-Stands q (Tree m c ks rest) l s (inr (inr h)) = omega (arith, length-Stands q rest l s h)

module _ {C : Type 0} (f : Forest C) (once : IsDistinct f) where
  -- the children are fewer than the nodes
  pub length-children_of : (l : ℕ) → 0 < total (λ (_ : ℕ) (_ : C). 1) f → length (children_of f l) < total (λ _ _. 1) f
  length-children_of l some = by_seen (seek None f l) refl
    where
      by_seen : (o : Option (Seen C)) → seek None f l ≡ o → length (option_map_or (λ s. s.children) o []) < total (λ _ _. 1) f
      by_seen None e = some
      by_seen (Some s) e = length-Stands None f l s (found_stands f l s once e)

  pub parent_of-prev : (l q : ℕ) → prev_of f l ≡ Some q → (p : ℕ) × (parent_of f l ≡ Some p) × (parent_of f q ≡ Some p) × (place_in (children_of f p) l ≡ place_in (children_of f p) q + 1)
  parent_of-prev l q e = by_parent (parent_of f l) refl e
    where
      by_parent : (o : Option ℕ) → parent_of f l ≡ o → option_and_then (λ p. before_in (children_of f p) l) o ≡ Some q → (p : ℕ) × (o ≡ Some p) × (parent_of f q ≡ Some p) × (place_in (children_of f p) l ≡ place_in (children_of f p) q + 1)
      by_parent None is h = absurd (let h' = h in cc)
      by_parent (Some p) is h =
          let r = child_of_parent f l p once is in
          let kids : children_of f p ≡ r.0.children = ap (λ o. option_map_or (λ (x : Seen C). x.children) o []) r.2 in
          elim (place-before_from None (children_of f p) l q (λ k. times-children_of f p k once) h) [
            | inl (none, _) ↦ absurd (let t : None ≡ Some q = none in cc)
            | inr (some, more) ↦ (p, refl, parent_of_child f p q r.0 once r.1 (subst (λ xs. 0 < times xs q) kids some), more)
          ]

  pub index_of-prev : (l q : ℕ) → prev_of f l ≡ Some q → index_of f l ≡ index_of f q + 1
  index_of-prev l q e =
      let r = parent_of-prev l q e in
      ap (λ o. option_map_or (λ p. place_in (children_of f p) l) o 0) r.1 ∙ (r.3 ∙ ap (λ n. n + 1) (ap (λ o. option_map_or (λ p. place_in (children_of f p) q) o 0) (sym r.2)))

  pub index_of-first : (l : ℕ) → prev_of f l ≡ None → index_of f l ≡ 0
  index_of-first l e = by_parent (parent_of f l) refl e
    where
      by_parent : (o : Option ℕ) → parent_of f l ≡ o → option_and_then (λ p. before_in (children_of f p) l) o ≡ None → option_map_or (λ p. place_in (children_of f p) l) o 0 ≡ 0
      by_parent None is h = refl
      by_parent (Some p) is h =
          let r = child_of_parent f l p once is in
          let kids : children_of f p ≡ r.0.children = ap (λ o. option_map_or (λ (x : Seen C). x.children) o []) r.2 in
          place-before_none None (children_of f p) l h (subst (λ xs. 0 < times xs l) (sym kids) r.3)

  pub index_of_low : (l : ℕ) → 0 < total (λ (_ : ℕ) (_ : C). 1) f → index_of f l < total (λ _ _. 1) f
  index_of_low l some = by_parent (parent_of f l) refl
    where
      by_parent : (o : Option ℕ) → parent_of f l ≡ o → option_map_or (λ p. place_in (children_of f p) l) o 0 < total (λ _ _. 1) f
      by_parent None is = some
      by_parent (Some p) is =
          let r = child_of_parent f l p once is in
          let kids : children_of f p ≡ r.0.children = ap (λ o. option_map_or (λ (x : Seen C). x.children) o []) r.2 in
          omega (arith, place_low (children_of f p) l (subst (λ xs. 0 < times xs l) (sym kids) r.3), length-children_of p some)

  -- the last child's index tells how many children there are
  pub index_of-last : (l k : ℕ) → last_of f l ≡ Some k → length (children_of f l) ≡ index_of f k + 1
  index_of-last l k e = by_seen (seek None f l) refl
    where
      by_seen : (o : Option (Seen C)) → seek None f l ≡ o → length (children_of f l) ≡ index_of f k + 1
      by_seen None t = absurd (let u : last_of f l ≡ None = ap (λ o. last_in (option_map_or (λ (x : Seen C). x.children) o [])) t in let v = e in cc)
      by_seen (Some s) t =
          let kids : children_of f l ≡ s.children = ap (λ o. option_map_or (λ (x : Seen C). x.children) o []) t in
          elim (place-last_or None (children_of f l) k (λ j. times-children_of f l j once) e) [
            | inl (_, none) ↦ absurd (let u : None ≡ Some k = none in cc)
            | inr (some, more) ↦ (
                let child = parent_of_child f l k s once (found_stands f l s once t) (subst (λ xs. 0 < times xs k) kids some) in
                more ∙ ap (λ n. n + 1) (ap (λ o. option_map_or (λ p. place_in (children_of f p) k) o 0) (sym child)))
          ]

  pub children_of-none : (l : ℕ) → last_of f l ≡ None → length (children_of f l) ≡ 0
  children_of-none l e = ap length (last_or_none None (children_of f l) e)
