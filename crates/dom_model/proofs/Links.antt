-- What stands in a forest after a tree is linked or made loose.
use Rattle.std.proofs.Common.{◌≡◌, ◌≢◌, ◌⊎◌, ℕ, zero, suc, ◌+◌, ◌<◌, ◌≤◌, Bool, true, false, cond, List, [], Option, Some, None, IfSome, is_none, refl, sym, ap, subst, ◌∙◌, inl, inr, arith, eqb}
use Rattle.std.proofs.lemmas.Bool.Decides.{eqb_tells, nat_tests}
use Rattle.std.specs.Option.{option_map, option_map_or, option_and_then}
use Rattle.dom_model.specs.Forest.{Forest, Seen, join, with_leaf, tops, total, count_of, IsDistinct, seek, parent_of, children_of, first_of, last_of, prev_of, next_of, before_in, after_in, prior_in, either, times, taken_from, put_in, HasIfSome, tree_of, without, is_label, link, unlink, CanPut, relinked, unlinked}
use Rattle.dom_model.specs.Forest.Forest.{Nil, Tree}
use Rattle.dom_model.proofs.Totals.{total-join, total-without, total-put_under, total-unlink}
use Rattle.dom_model.proofs.Lists.{before_in-put_in, after_in-put_in, first_in-put_in, last_in-put_in, is_label_prior, is_label_first, is_label_after, before_from-taken, after_in-taken, first_in-taken, last_or-taken}
use Rattle.dom_model.proofs.Stands.{Stands, taken_from_absent, times-tops, count_of-Stands, Stands-count, times-children, seek_absent, seek_Stands, child_stands, parent_stands, trimmed, Stands-without, Stands-tree_of, Stands-put_rising, Stands-put_under}

pub eqb_refl_true : (n : ℕ) → eqb n n ≡ true
eqb_refl_true n = grind (arith, nat_tests)

module _ {C : Type 0} where
  pub join-Nil : (f : Forest C) → join f Nil ≡ f
  join-Nil Nil = refl
  join-Nil (Tree m c ks rest) = ap (Tree m c ks) (join-Nil rest)

  pub tree_of_absent : (f : Forest C) (n : ℕ) → count_of f n ≡ 0 → tree_of f n ≡ Nil
  tree_of_absent Nil n none = refl
  tree_of_absent (Tree m c ks rest) n none =
      elim (eqb_tells m n) [
        | inl (e, _) ↦ absurd (let none' = rw e at none in omega (arith, none'))
        | inr (e, _) ↦ (let none' = rw e at none in rw (e, tree_of_absent ks n (omega (arith, none'))) (tree_of_absent rest n (omega (arith, none'))))
      ]

  pub tree_is : (f : Forest C) (n : ℕ) → count_of f n ≡ 1 → (c : C) × (ks : Forest C) × (tree_of f n ≡ Tree n c ks Nil)
  tree_is Nil n once = absurd (omega (arith, once))
  tree_is (Tree m c ks rest) n once =
      elim (eqb_tells m n) [
        | inl (e, same) ↦ (c, ks, rw e (ap (λ k. Tree k c ks Nil) same))
        | inr (e, _) ↦ (let once' = rw e at once in
            elim (split_one (count_of ks n) (count_of rest n) once') [
              | inl (one, none) ↦ (let t = tree_is ks n one in (t.0, t.1, rw (e, tree_of_absent rest n none, join-Nil) t.2))
              | inr (none, one) ↦ (let t = tree_is rest n one in (t.0, t.1, rw (e, tree_of_absent ks n none) t.2))
            ])
      ]
    where
      split_one : (a b : ℕ) → 0 + (a + b) ≡ 1 → ((a ≡ 1) × (b ≡ 0)) ⊎ ((a ≡ 0) × (b ≡ 1))
      split_one a b h = grind arith

  -- what stands at a label that is there, and that the search finds it
  pub seen : (f : Forest C) (l : ℕ) → IsDistinct f → 0 < count_of f l → (s : Seen C) × Stands None f l s × (seek None f l ≡ Some s)
  seen f l once h = let r = Stands-count None f l h in (r.0, r.1, seek_Stands None f l r.0 (once l) r.1)

  pub found_stands : (f : Forest C) (l : ℕ) (s : Seen C) → IsDistinct f → seek None f l ≡ Some s → Stands None f l s
  found_stands f l s once h = by_count (count_of f l) refl
    where
      by_count : (k : ℕ) → count_of f l ≡ k → Stands None f l s
      by_count zero e = absurd (let none = seek_absent None f l e in cc)
      by_count (suc k) e =
          let r = Stands-count None f l (omega (arith, e)) in
          let same : r.0 ≡ s = (let t = seek_Stands None f l r.0 (once l) r.1 in cc) in
          subst (Stands None f l) same r.1

  pub missing_count : (f : Forest C) (l : ℕ) → IsDistinct f → seek None f l ≡ None → count_of f l ≡ 0
  missing_count f l once h = by_count (count_of f l) refl
    where
      by_count : (k : ℕ) → count_of f l ≡ k → count_of f l ≡ 0
      by_count zero e = e
      by_count (suc k) e = absurd (let t = (seen f l once (omega (arith, e))).2 in cc)

  pub found_count : (f : Forest C) (l : ℕ) (s : Seen C) → seek None f l ≡ Some s → 0 < count_of f l
  found_count f l s h = by_count (count_of f l) refl
    where
      by_count : (k : ℕ) → count_of f l ≡ k → 0 < count_of f l
      by_count zero e = absurd (let none = seek_absent None f l e in cc)
      by_count (suc k) e = omega (arith, e)

  -- a child of l has l as its parent
  pub parent_of_child : (f : Forest C) (l n : ℕ) (s : Seen C) → IsDistinct f → Stands None f l s → 0 < times s.children n → parent_of f n ≡ Some l
  parent_of_child f l n s once h k =
      let r = child_stands None f l s n h k in
      let t = seek_Stands None f n r.0 (once n) r.1 in
      rw t r.2

  -- a node with a parent is among its children
  pub child_of_parent : (f : Forest C) (l p : ℕ) → IsDistinct f → parent_of f l ≡ Some p → (r : Seen C) × Stands None f p r × (seek None f p ≡ Some r) × (0 < times r.children l)
  child_of_parent f l p once h = by_seen (seek None f l) refl h
    where
      by_seen : (o : Option (Seen C)) → seek None f l ≡ o → option_and_then (λ s. s.parent) o ≡ Some p → (r : Seen C) × Stands None f p r × (seek None f p ≡ Some r) × (0 < times r.children l)
      by_seen None e k = absurd (let k' = k in cc)
      by_seen (Some s) e k =
          elim (parent_stands None f l s (found_stands f l s once e)) [
            | inl (none, _) ↦ absurd (let k' = k in cc)
            | inr (q, r, is, st, t) ↦ (
                let same : q ≡ p = (let k' = k in cc) in
                let st' = rw same at st in
                (r, st', seek_Stands None f p r (once p) st', t))
          ]

  -- no label stands twice among children
  pub times-children_of : (f : Forest C) (p k : ℕ) → IsDistinct f → times (children_of f p) k ≤ 1
  times-children_of f p k once = by_seen (seek None f p) refl
    where
      by_seen : (o : Option (Seen C)) → seek None f p ≡ o → times (option_map_or (λ s. s.children) o []) k ≤ 1
      by_seen None e = omega arith
      by_seen (Some s) e = omega (arith, times-children None f p s k (found_stands f p s once e), once k)

  -- each label among children stands in the forest
  pub times-children_of_le : (f : Forest C) (p k : ℕ) → IsDistinct f → times (children_of f p) k ≤ count_of f k
  times-children_of_le f p k once = by_seen (seek None f p) refl
    where
      by_seen : (o : Option (Seen C)) → seek None f p ≡ o → times (option_map_or (λ s. s.children) o []) k ≤ count_of f k
      by_seen None e = omega arith
      by_seen (Some s) e = times-children None f p s k (found_stands f p s once e)

  -- a label with a parent stands in the forest, and so does its parent
  pub parent_count : (f : Forest C) (l p : ℕ) → IsDistinct f → parent_of f l ≡ Some p → (0 < count_of f l) × (0 < count_of f p)
  parent_count f l p once e =
      let r = child_of_parent f l p once e in
      (omega (arith, r.3, times-children None f p r.0 l r.1), count_of-Stands None f p r.0 r.1)

  -- ---- what the look-ups find stands in the forest

  -- a label that can only be one of p's children
  pub from_children : (f : Forest C) (p : ℕ) (o : Option ℕ) → IsDistinct f → ((k : ℕ) → times (children_of f p) k ≡ 0 → is_label o k ≡ false) → IfSome o (λ k. 0 < count_of f k)
  from_children f p None once off = tt
  from_children f p (Some k) once off = by_count (times (children_of f p) k) refl
    where
      by_count : (c : ℕ) → times (children_of f p) k ≡ c → 0 < count_of f k
      by_count zero e = absurd (let t = off k e in let u = eqb_refl_true k in cc)
      by_count (suc c) e = omega (arith, e, times-children_of_le f p k once)

  pub parent_here : (f : Forest C) (l : ℕ) → IsDistinct f → IfSome (parent_of f l) (λ k. 0 < count_of f k)
  parent_here f l once = by_parent (parent_of f l) refl
    where
      by_parent : (o : Option ℕ) → parent_of f l ≡ o → IfSome o (λ k. 0 < count_of f k)
      by_parent None e = tt
      by_parent (Some p) e = (parent_count f l p once e).1

  pub first_here : (f : Forest C) (l : ℕ) → IsDistinct f → IfSome (first_of f l) (λ k. 0 < count_of f k)
  first_here f l once = from_children f l (first_of f l) once (is_label_first (children_of f l))

  pub last_here : (f : Forest C) (l : ℕ) → IsDistinct f → IfSome (last_of f l) (λ k. 0 < count_of f k)
  last_here f l once = from_children f l (last_of f l) once (is_label_prior (children_of f l) None)

  pub prev_here : (f : Forest C) (l : ℕ) → IsDistinct f → IfSome (prev_of f l) (λ k. 0 < count_of f k)
  prev_here f l once = by_parent (parent_of f l)
    where
      by_parent : (o : Option ℕ) → IfSome (option_and_then (λ p. before_in (children_of f p) l) o) (λ k. 0 < count_of f k)
      by_parent None = tt
      by_parent (Some p) = from_children f p (before_in (children_of f p) l) once (is_label_prior (children_of f p) (Some l))

  pub next_here : (f : Forest C) (l : ℕ) → IsDistinct f → IfSome (next_of f l) (λ k. 0 < count_of f k)
  next_here f l once = by_parent (parent_of f l)
    where
      by_parent : (o : Option ℕ) → IfSome (option_and_then (λ p. after_in (children_of f p) l) o) (λ k. 0 < count_of f k)
      by_parent None = tt
      by_parent (Some p) = from_children f p (after_in (children_of f p) l) once (is_label_after (children_of f p) l)

  -- ---- a link

  module _ (f : Forest C) (p : ℕ) (b : Option ℕ) (n : ℕ) (once : IsDistinct f) (can : CanPut f p b n) where
    pub count-n : count_of f n ≡ 1
    count-n = omega (arith, once n, can.node)

    pub tree : (c : C) × (ks : Forest C) × (tree_of f n ≡ Tree n c ks Nil)
    tree = tree_is f n count-n

    pub in_tree : 0 < count_of (tree_of f n) n
    in_tree = rw tree.2 (grind (arith, nat_tests))

    pub not_left : count_of (without f n) n ≡ 0
    not_left = omega (arith, total-without (λ m _. cond (eqb m n) 1 0) f n, in_tree, count-n)

    pub p_left : count_of (without f n) p ≡ 1
    p_left = omega (arith, total-without (λ m _. cond (eqb m p) 1 0) f n, can.apart, once p, can.parent)

    pub total-link : (w : ℕ → C → ℕ) → total w (link f p b n) ≡ total w f
    total-link w = omega (arith, total-put_under w (without f n) p b (tree_of f n) p_left, total-without w f n)

    pub IsDistinct-link : IsDistinct (link f p b n)
    IsDistinct-link l = omega (arith, once l, total-link (λ m _. cond (eqb m l) 1 0))

    -- n is no child, so taking it out changes no list of children
    pub no_child : (l : ℕ) (s : Seen C) → Stands None f l s → times s.children n ≡ 0
    no_child l s h = by_count (times s.children n) refl
      where
        by_count : (k : ℕ) → times s.children n ≡ k → times s.children n ≡ 0
        by_count zero e = e
        by_count (suc k) e = absurd (let t = parent_of_child f l n s once h (omega (arith, e)) in let loose = can.loose in cc)

    pub Stands-left : (l : ℕ) (s : Seen C) → Stands None (without f n) l s → (n ≢ l) × Stands None f l s
    Stands-left l s h =
        let r = Stands-without None f n l s (once n) h in
        let same : s ≡ r.0 = r.2 ∙ ap (λ xs. record r.0 { children = xs }) (taken_from_absent r.0.children n (no_child l r.0 r.1)) in
        (λ is. (let some = count_of-Stands None (without f n) l s h in let some' = rw (← is) at some in omega (arith, not_left, some')), rw same r.1)

    pub Stands-link : (l : ℕ) (s : Seen C) → Stands None (link f p b n) l s → (o : Seen C) × Stands None f l o × (s ≡ relinked p b n l o)
    Stands-link l s h =
        let c = tree.0 in
        let ks = tree.1 in
        let is = tree.2 in
        let h' = rw is at h in
        elim (Stands-put_under None (without f n) p b n c ks l s (omega (arith, p_left)) h') [
          | inl (off, st) ↦ (
              let r = Stands-left l s st in
              (s, r.1, rw (off_test n l r.0, off_test p l (λ e. off (sym e))) refl))
          | inr (inl (at, o, st, e)) ↦ (
              let r = Stands-left l o st in
              (o, r.1, rw (off_test n l r.0, on_test p l (sym at)) e))
          | inr (inr st) ↦ (
              let st' : Stands (Some p) (tree_of f n) l s = rw is st in
              let apart : p ≢ l = λ e. (let some = count_of-Stands (Some p) (tree_of f n) l s st' in let some' = rw (← e) at some in let none = can.apart in omega (arith, some', none)) in
              elim (Stands-tree_of None (Some p) f n l s (once n) st') [
                | inl (at, o, k, e) ↦ (o, k, rw (on_test n l at, off_test p l apart) e)
                | inr (off, k) ↦ (s, k, rw (off_test n l off, off_test p l apart) refl)
              ])
        ]
      where
        off_test : (a l : ℕ) → a ≢ l → eqb a l ≡ false
        off_test a l h = elim (eqb_tells a l) [ inl (_, e) ↦ absurd (h e) | inr (e, _) ↦ e ]

        on_test : (a l : ℕ) → a ≡ l → eqb a l ≡ true
        on_test a l h = elim (eqb_tells a l) [ inl (e, _) ↦ e | inr (_, k) ↦ absurd (k h) ]

    -- the search after a link
    pub seek-link : (l : ℕ) → seek None (link f p b n) l ≡ option_map (relinked p b n l) (seek None f l)
    seek-link l = by_count (count_of f l) refl
      where
        by_count : (k : ℕ) → count_of f l ≡ k → seek None (link f p b n) l ≡ option_map (relinked p b n l) (seek None f l)
        by_count zero e = rw (seek_absent None f l e) (seek_absent None (link f p b n) l (total-link (λ m _. cond (eqb m l) 1 0) ∙ e))
        by_count (suc k) e =
            let s = seen (link f p b n) l IsDistinct-link (omega (arith, e, total-link (λ m _. cond (eqb m l) 1 0))) in
            let o = Stands-link l s.0 s.1 in
            rw (seek_Stands None f l o.0 (once l) o.1) (s.2 ∙ ap Some o.2)

    -- ---- the neighbours after a link

    -- the label before the place
    abbrev pub prior_of : Option ℕ
    prior_of = prior_in (children_of f p) b

    -- what stands at p
    pub at_p : (r : Seen C) × Stands None f p r × (seek None f p ≡ Some r)
    at_p = seen f p once can.parent

    pub children_of-p : children_of f p ≡ at_p.0.children
    children_of-p = rw at_p.2 refl

    pub absent_n : times (children_of f p) n ≡ 0
    absent_n = rw children_of-p (no_child p at_p.0 at_p.1)

    pub once_p : (k : ℕ) → times (children_of f p) k ≤ 1
    once_p k = rw children_of-p (omega (arith, once k, times-children None f p at_p.0 k at_p.1))

    -- a label with another parent stands in no list of p's children
    pub not_of_p : (l : ℕ) → ((q : ℕ) → parent_of f l ≡ Some q → q ≢ p) → times (children_of f p) l ≡ 0
    not_of_p l off = rw children_of-p (by_count (times at_p.0.children l) refl)
      where
        by_count : (k : ℕ) → times at_p.0.children l ≡ k → times at_p.0.children l ≡ 0
        by_count zero e = e
        by_count (suc k) e = absurd (off p (parent_of_child f p l at_p.0 once at_p.1 (omega (arith, e))) refl)

    pub has_b : HasIfSome (children_of f p) b
    has_b = by_case b can.before
      where
        by_case : (o : Option ℕ) → IfSome o (λ m. parent_of f m ≡ Some p) → HasIfSome (children_of f p) o
        by_case None h = tt
        by_case (Some m) h =
            let r = child_of_parent f m p once h in
            let same : at_p.0 ≡ r.0 = (let e = at_p.2 in let t = r.2 in cc) in
            rw (children_of-p, same) r.3

    pub is_label_b : (l : ℕ) → times (children_of f p) l ≡ 0 → is_label b l ≡ false
    is_label_b l none = by_case b has_b
      where
        by_case : (o : Option ℕ) → HasIfSome (children_of f p) o → is_label o l ≡ false
        by_case None h = refl
        by_case (Some m) h = elim (eqb_tells m l) [ inl (_, same) ↦ absurd (let h' = rw same at h in omega (arith, none, h')) | inr (e, _) ↦ e ]

    pub parent_of-link : (l : ℕ) (o : Seen C) → seek None f l ≡ Some o → parent_of (link f p b n) l ≡ cond (eqb n l) (Some p) o.parent
    parent_of-link l o e = rw (seek-link l, e) refl

    pub parent_of-link_root : (l : ℕ) → n ≢ l → parent_of f l ≡ None → parent_of (link f p b n) l ≡ None
    parent_of-link_root l off root = rw (seek-link l) (by_seen (seek None f l) root)
      where
        by_seen : (o : Option (Seen C)) → option_and_then (λ s. s.parent) o ≡ None → option_and_then (λ s. s.parent) (option_map (relinked p b n l) o) ≡ None
        by_seen None h = refl
        by_seen (Some o) h = elim (eqb_tells n l) [ inl (_, is) ↦ absurd (off is) | inr (t, _) ↦ rw t h ]

    pub children_of-link : (l : ℕ) → children_of (link f p b n) l ≡ cond (eqb p l) (put_in (children_of f l) b n) (children_of f l)
    children_of-link l = rw (seek-link l) (by_seen (seek None f l) refl)
      where
        by_seen : (o : Option (Seen C)) → seek None f l ≡ o → option_map_or (λ s. s.children) (option_map (relinked p b n l) o) [] ≡ cond (eqb p l) (put_in (option_map_or (λ s. s.children) o []) b n) (option_map_or (λ s. s.children) o [])
        by_seen None e = elim (eqb_tells p l) [ inl (t, same) ↦ absurd (let r = at_p.2 in let e' = rw (← same) at e in cc) | inr (t, _) ↦ rw t refl ]
        by_seen (Some o) e = refl

    pub first_of-link : (l : ℕ) → first_of (link f p b n) l ≡ cond (eqb p l) (cond (is_none prior_of) (Some n) (first_of f l)) (first_of f l)
    first_of-link l = rw (children_of-link l) (elim (eqb_tells p l) [
      | inl (t, same) ↦ rw t (let h = first_in-put_in (children_of f p) b n has_b in rw (← same) h)
      | inr (t, _) ↦ rw t refl
    ])

    pub last_of-link : (l : ℕ) → last_of (link f p b n) l ≡ cond (eqb p l) (cond (is_none b) (Some n) (last_of f l)) (last_of f l)
    last_of-link l = rw (children_of-link l) (elim (eqb_tells p l) [
      | inl (t, same) ↦ rw t (let h = last_in-put_in (children_of f p) b n has_b in rw (← same) h)
      | inr (t, _) ↦ rw t refl
    ])

    pub prev_of-link : (l : ℕ) (o : Seen C) → seek None f l ≡ Some o → prev_of (link f p b n) l ≡ cond (eqb n l) prior_of (cond (is_label b l) (Some n) (prev_of f l))
    prev_of-link l o e =
        let par : parent_of f l ≡ o.parent = rw e refl in
        rw (parent_of-link l o e, par) (elim (eqb_tells n l) [
          | inl (t, same) ↦ rw (t, children_of-link p, eqb_refl_true p, before_in-put_in (children_of f p) b n l absent_n has_b, t) refl
          | inr (t, other) ↦ rw t (by_parent o.parent par t)
        ])
      where
        by_parent : (q : Option ℕ) → parent_of f l ≡ q → eqb n l ≡ false → option_and_then (λ k. before_in (children_of (link f p b n) k) l) q ≡ cond (is_label b l) (Some n) (option_and_then (λ k. before_in (children_of f k) l) q)
        by_parent None par t = rw (is_label_b l (not_of_p l (λ q is. absurd (cc)))) refl
        by_parent (Some q) par t =
            elim (eqb_tells p q) [
              | inl (u, same) ↦ rw (children_of-link q, u, ← same, before_in-put_in (children_of f p) b n l absent_n has_b, t) refl
              | inr (u, off) ↦ rw (children_of-link q, u, is_label_b l (not_of_p l (λ k is. λ at. off (let is' = is in cc)))) refl
            ]

    pub next_of-link : (l : ℕ) (o : Seen C) → seek None f l ≡ Some o → next_of (link f p b n) l ≡ cond (eqb n l) b (cond (is_label prior_of l) (Some n) (next_of f l))
    next_of-link l o e =
        let par : parent_of f l ≡ o.parent = rw e refl in
        rw (parent_of-link l o e, par) (elim (eqb_tells n l) [
          | inl (t, same) ↦ rw (t, children_of-link p, eqb_refl_true p, after_in-put_in (children_of f p) b n l absent_n once_p has_b, t) refl
          | inr (t, other) ↦ rw t (by_parent o.parent par t)
        ])
      where
        by_parent : (q : Option ℕ) → parent_of f l ≡ q → eqb n l ≡ false → option_and_then (λ k. after_in (children_of (link f p b n) k) l) q ≡ cond (is_label prior_of l) (Some n) (option_and_then (λ k. after_in (children_of f k) l) q)
        by_parent None par t = rw (is_label_prior (children_of f p) b l (not_of_p l (λ q is. absurd (cc)))) refl
        by_parent (Some q) par t =
            elim (eqb_tells p q) [
              | inl (u, same) ↦ rw (children_of-link q, u, ← same, after_in-put_in (children_of f p) b n l absent_n once_p has_b, t) refl
              | inr (u, off) ↦ rw (children_of-link q, u, is_label_prior (children_of f p) b l (not_of_p l (λ k is. λ at. off (let is' = is in cc)))) refl
            ]

  -- ---- a tree made loose

  module _ (f : Forest C) (p n : ℕ) (once : IsDistinct f) (child : parent_of f n ≡ Some p) where
    pub p_of_n : (r : Seen C) × Stands None f p r × (seek None f p ≡ Some r) × (0 < times r.children n)
    p_of_n = child_of_parent f n p once child

    pub times_n : times (children_of f p) n ≡ 1
    times_n = rw p_of_n.2 (omega (arith, p_of_n.3, times-children None f p p_of_n.0 n p_of_n.1, once n))

    pub once_of_p : (k : ℕ) → times (children_of f p) k ≤ 1
    once_of_p k = rw p_of_n.2 (omega (arith, once k, times-children None f p p_of_n.0 k p_of_n.1))

    pub one_n : count_of f n ≡ 1
    one_n = omega (arith, once n, p_of_n.3, times-children None f p p_of_n.0 n p_of_n.1)

    pub tree_n : (c : C) × (ks : Forest C) × (tree_of f n ≡ Tree n c ks Nil)
    tree_n = tree_is f n one_n

    pub gone_n : count_of (without f n) n ≡ 0
    gone_n =
        let own : 0 < count_of (tree_of f n) n = rw tree_n.2 (grind (arith, nat_tests)) in
        omega (arith, total-without (λ m _. cond (eqb m n) 1 0) f n, own, one_n)

    pub IsDistinct-unlink : IsDistinct (unlink f n)
    IsDistinct-unlink l = omega (arith, once l, total-unlink (λ m _. cond (eqb m l) 1 0) f n)

    -- n stands in no other list of children
    pub only_child_of_p : (l : ℕ) (s : Seen C) → Stands None f l s → p ≢ l → times s.children n ≡ 0
    only_child_of_p l s h off = by_count (times s.children n) refl
      where
        by_count : (k : ℕ) → times s.children n ≡ k → times s.children n ≡ 0
        by_count zero e = e
        by_count (suc k) e = absurd (off (let t = parent_of_child f l n s once h (omega (arith, e)) in let c = child in cc))

    pub trimmed_is : (l : ℕ) (s : Seen C) → Stands None f l s → trimmed n s ≡ record { parent = s.parent; content = s.content; children = cond (eqb p l) (taken_from s.children n) s.children }
    trimmed_is l s h =
        elim (eqb_tells p l) [
          | inl (t, _) ↦ rw t refl
          | inr (t, off) ↦ rw t (ap (λ xs. record s { children = xs }) (taken_from_absent s.children n (only_child_of_p l s h off)))
        ]

    -- no node of the tree of n has n as a child
    pub in_own_tree : (l : ℕ) (s : Seen C) → Stands None (tree_of f n) l s → times s.children n ≡ 0
    in_own_tree l s st =
        let is = tree_n.2 in
        let st' = rw is at st in
        let all = total-without (λ m _. cond (eqb m n) 1 0) f n in
        let all' = rw is at all in
        let few : count_of tree_n.1 n ≡ 0 = (let t = eqb_refl_true n in let all3 = rw t at all' in omega (arith, all3, one_n)) in
        elim st' [
          | inl (_, e) ↦ rw e (omega (arith, few, times-tops tree_n.1 n))
          | inr (inl k) ↦ omega (arith, few, times-children (Some n) tree_n.1 l s n k)
          | inr (inr k) ↦ absurd k
        ]

    pub Stands-unlink : (l : ℕ) (s : Seen C) → Stands None (unlink f n) l s → (o : Seen C) × Stands None f l o × (s ≡ unlinked p n l o)
    Stands-unlink l s h =
        elim (Stands-put_rising None (without f n) n (tree_of f n) l s h) [
          | inl st ↦ (
              let r = Stands-without None f n l s (once n) st in
              let off : n ≢ l = λ is. (let some = count_of-Stands None (without f n) l s st in let some' = rw (← is) at some in let none = gone_n in omega (arith, none, some')) in
              (r.0, r.1, rw (off_test n l off) (r.2 ∙ trimmed_is l r.0 r.1)))
          | inr st ↦ elim (Stands-tree_of None None f n l s (once n) st) [
            | inl (at, o, k, e) ↦ (
                let none : times s.children n ≡ 0 = in_own_tree l s st in
                let none' : times o.children n ≡ 0 = rw e at none in
                (o, k, rw (on_test n l at) (e ∙ ap (λ xs. record { parent = None; content = o.content; children = xs }) (sym (untouched (eqb p l) o.children none')))))
            | inr (off, k) ↦ (s, k, rw (off_test n l off) (ap (λ xs. record s { children = xs }) (sym (untouched (eqb p l) s.children (in_own_tree l s st)))))
          ]
        ]
      where
        off_test : (a l : ℕ) → a ≢ l → eqb a l ≡ false
        off_test a l h = elim (eqb_tells a l) [ inl (_, e) ↦ absurd (h e) | inr (e, _) ↦ e ]

        on_test : (a l : ℕ) → a ≡ l → eqb a l ≡ true
        on_test a l h = elim (eqb_tells a l) [ inl (e, _) ↦ e | inr (_, k) ↦ absurd (k h) ]

        untouched : (v : Bool) (xs : List ℕ) → times xs n ≡ 0 → cond v (taken_from xs n) xs ≡ xs
        untouched true xs none = taken_from_absent xs n none
        untouched false xs none = refl

    -- the search after a tree is made loose
    pub seek-unlink : (l : ℕ) → seek None (unlink f n) l ≡ option_map (unlinked p n l) (seek None f l)
    seek-unlink l = by_count (count_of f l) refl
      where
        by_count : (k : ℕ) → count_of f l ≡ k → seek None (unlink f n) l ≡ option_map (unlinked p n l) (seek None f l)
        by_count zero e = rw (seek_absent None f l e) (seek_absent None (unlink f n) l (total-unlink (λ m _. cond (eqb m l) 1 0) f n ∙ e))
        by_count (suc k) e =
            let s = seen (unlink f n) l IsDistinct-unlink (omega (arith, e, total-unlink (λ m _. cond (eqb m l) 1 0) f n)) in
            let o = Stands-unlink l s.0 s.1 in
            rw (seek_Stands None f l o.0 (once l) o.1) (s.2 ∙ ap Some o.2)

    -- ---- the neighbours after a tree is made loose

    pub parent_of-unlink : (l : ℕ) (o : Seen C) → seek None f l ≡ Some o → parent_of (unlink f n) l ≡ cond (eqb n l) None o.parent
    parent_of-unlink l o e = rw (seek-unlink l, e) refl

    pub children_of-unlink : (l : ℕ) → children_of (unlink f n) l ≡ cond (eqb p l) (taken_from (children_of f l) n) (children_of f l)
    children_of-unlink l = rw (seek-unlink l) (by_seen (seek None f l))
      where
        by_seen : (o : Option (Seen C)) → option_map_or (λ s. s.children) (option_map (unlinked p n l) o) [] ≡ cond (eqb p l) (taken_from (option_map_or (λ s. s.children) o []) n) (option_map_or (λ s. s.children) o [])
        by_seen None = elim (eqb p l) as (λ v. [] ≡ cond v (taken_from [] n) []) [ true ↦ refl | false ↦ refl ]
        by_seen (Some o) = refl

    -- a label with another parent stands in no list of p's children
    pub not_under_p : (l : ℕ) → ((q : ℕ) → parent_of f l ≡ Some q → q ≢ p) → times (children_of f p) l ≡ 0
    not_under_p l off = rw p_of_n.2 (by_count (times p_of_n.0.children l) refl)
      where
        by_count : (k : ℕ) → times p_of_n.0.children l ≡ k → times p_of_n.0.children l ≡ 0
        by_count zero e = e
        by_count (suc k) e = absurd (off p (parent_of_child f p l p_of_n.0 once p_of_n.1 (omega (arith, e))) refl)

    pub first_of-unlink : (l : ℕ) → first_of (unlink f n) l ≡ cond (eqb p l) (cond (is_none (prev_of f n)) (next_of f n) (first_of f l)) (first_of f l)
    first_of-unlink l = rw (children_of-unlink l, child) (elim (eqb_tells p l) [
      | inl (t, same) ↦ rw t (let h = first_in-taken (children_of f p) n (omega (arith, times_n)) in rw (← same) h)
      | inr (t, _) ↦ rw t refl
    ])

    pub last_of-unlink : (l : ℕ) → last_of (unlink f n) l ≡ cond (eqb p l) (cond (is_none (next_of f n)) (prev_of f n) (last_of f l)) (last_of f l)
    last_of-unlink l = rw (children_of-unlink l, child) (elim (eqb_tells p l) [
      | inl (t, same) ↦ rw t (let h = last_or-taken None (children_of f p) n once_of_p (omega (arith, times_n)) in rw (← same) h)
      | inr (t, _) ↦ rw t refl
    ])

    pub prev_of-unlink : (l : ℕ) (o : Seen C) → seek None f l ≡ Some o → prev_of (unlink f n) l ≡ cond (eqb n l) None (cond (is_label (next_of f n) l) (prev_of f n) (prev_of f l))
    prev_of-unlink l o e =
        let par : parent_of f l ≡ o.parent = rw e refl in
        rw (parent_of-unlink l o e, child, par) (elim (eqb_tells n l) [
          | inl (t, same) ↦ rw t refl
          | inr (t, other) ↦ rw t (by_parent o.parent par other)
        ])
      where
        by_parent : (q : Option ℕ) → parent_of f l ≡ q → n ≢ l → option_and_then (λ k. before_in (children_of (unlink f n) k) l) q ≡ cond (is_label (after_in (children_of f p) n) l) (before_in (children_of f p) n) (option_and_then (λ k. before_in (children_of f k) l) q)
        by_parent None par t = rw (is_label_after (children_of f p) n l (not_under_p l (λ q is. absurd (cc)))) refl
        by_parent (Some q) par t =
            elim (eqb_tells p q) [
              | inl (u, same) ↦ rw (children_of-unlink q, u, ← same) (before_from-taken None (children_of f p) n l once_of_p t)
              | inr (u, off) ↦ rw (children_of-unlink q, u, is_label_after (children_of f p) n l (not_under_p l (λ k is. λ at. off (let is' = is in cc)))) refl
            ]

    pub next_of-unlink : (l : ℕ) (o : Seen C) → seek None f l ≡ Some o → next_of (unlink f n) l ≡ cond (eqb n l) None (cond (is_label (prev_of f n) l) (next_of f n) (next_of f l))
    next_of-unlink l o e =
        let par : parent_of f l ≡ o.parent = rw e refl in
        rw (parent_of-unlink l o e, child, par) (elim (eqb_tells n l) [
          | inl (t, same) ↦ rw t refl
          | inr (t, other) ↦ rw t (by_parent o.parent par other)
        ])
      where
        by_parent : (q : Option ℕ) → parent_of f l ≡ q → n ≢ l → option_and_then (λ k. after_in (children_of (unlink f n) k) l) q ≡ cond (is_label (before_in (children_of f p) n) l) (after_in (children_of f p) n) (option_and_then (λ k. after_in (children_of f k) l) q)
        by_parent None par t = rw (is_label_prior (children_of f p) (Some n) l (not_under_p l (λ q is. absurd (cc)))) refl
        by_parent (Some q) par t =
            elim (eqb_tells p q) [
              | inl (u, same) ↦ rw (children_of-unlink q, u, ← same) (after_in-taken (children_of f p) n l once_of_p (omega (arith, times_n)) t)
              | inr (u, off) ↦ rw (children_of-unlink q, u, is_label_prior (children_of f p) (Some n) l (not_under_p l (λ k is. λ at. off (let is' = is in cc)))) refl
            ]

    pub parent_of-unlink_root : (l : ℕ) → parent_of f l ≡ None → parent_of (unlink f n) l ≡ None
    parent_of-unlink_root l root = rw (seek-unlink l) (by_seen (seek None f l) root)
      where
        by_seen : (o : Option (Seen C)) → option_and_then (λ s. s.parent) o ≡ None → option_and_then (λ s. s.parent) (option_map (unlinked p n l) o) ≡ None
        by_seen None h = refl
        by_seen (Some o) h = elim (eqb n l) as (λ v. cond v None o.parent ≡ None) [ true ↦ refl | false ↦ h ]

  -- ---- a new leaf

  module _ (f : Forest C) (m : ℕ) (c : C) (fresh : count_of f m ≡ 0) where
    pub total-with_leaf : (w : ℕ → C → ℕ) → total w (with_leaf f m c) ≡ total w f + w m c
    total-with_leaf w = omega (arith, total-join w f (Tree m c Nil Nil))

    pub seek-with_leaf_other : (q : Option ℕ) (g : Forest C) (l : ℕ) → m ≢ l → seek q (with_leaf g m c) l ≡ seek q g l
    seek-with_leaf_other q Nil l off = elim (eqb_tells m l) [ inl (_, is) ↦ absurd (off is) | inr (t, _) ↦ rw t refl ]
    seek-with_leaf_other q (Tree k d ks rest) l off =
        elim (eqb k l) as (λ v. cond v (Some (record { parent = q; content = d; children = tops ks })) (either (seek (Some k) ks l) (seek q (with_leaf rest m c) l)) ≡ cond v (Some (record { parent = q; content = d; children = tops ks })) (either (seek (Some k) ks l) (seek q rest l))) [
          | true ↦ refl
          | false ↦ ap (either (seek (Some k) ks l)) (seek-with_leaf_other q rest l off)
        ]

    pub Stands-leaf : (q : Option ℕ) (g : Forest C) → Stands q (with_leaf g m c) m (record { parent = q; content = c; children = [] })
    Stands-leaf q Nil = inl (refl, refl)
    Stands-leaf q (Tree k d ks rest) = inr (inr (Stands-leaf q rest))

    pub seek-with_leaf_new : seek None (with_leaf f m c) m ≡ Some (record { parent = None; content = c; children = [] })
    seek-with_leaf_new = seek_Stands None (with_leaf f m c) m _ (let t = eqb_refl_true m in let few = total-with_leaf (λ k _. cond (eqb k m) 1 0) in let few' = rw t at few in omega (arith, fresh, few')) (Stands-leaf None f)

    -- the parents and the children are as before
    pub parent_of-with_leaf : (l : ℕ) → parent_of (with_leaf f m c) l ≡ parent_of f l
    parent_of-with_leaf l = elim (eqb_tells m l) [
      | inl (_, is) ↦ rw (← is) (rw (seek-with_leaf_new, seek_absent None f m fresh) refl)
      | inr (_, off) ↦ ap (option_and_then (λ s. s.parent)) (seek-with_leaf_other None f l off)
    ]

    pub children_of-with_leaf : (l : ℕ) → children_of (with_leaf f m c) l ≡ children_of f l
    children_of-with_leaf l = elim (eqb_tells m l) [
      | inl (_, is) ↦ rw (← is) (rw (seek-with_leaf_new, seek_absent None f m fresh) refl)
      | inr (_, off) ↦ ap (λ o. option_map_or (λ s. s.children) o []) (seek-with_leaf_other None f l off)
    ]
