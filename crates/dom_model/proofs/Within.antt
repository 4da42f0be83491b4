-- What stands below a node, and how deep, by a walk to the root.
use Rattle.std.proofs.Common.{◌≡◌, ◌≢◌, ◌⊎◌, ℕ, zero, suc, ◌+◌, ◌<◌, ◌≤◌, cond, [], ◌∷◌, Option, Some, None, refl, sym, ap, subst, ◌∙◌, inl, inr, arith, eqb}
use Rattle.std.proofs.lemmas.Bool.Decides.{eqb_tells}
use Rattle.dom_model.specs.Forest.{Forest, Seen, tops, total, count_of, IsDistinct, parent_of, times, tree_of, IsWithin, depth_from, depth_of}
use Rattle.dom_model.specs.Forest.Forest.{Nil, Tree}
use Rattle.dom_model.proofs.Totals.{total-without}
use Rattle.dom_model.proofs.Stands.{Stands, count_of-Stands, Stands-count, seek_Stands, child_stands, parent_stands, Stands-tree_of}
use Rattle.dom_model.proofs.Links.{seen, tree_is, child_of_parent, parent_count, eqb_refl_true}

module _ {C : Type 0} (f : Forest C) (n : ℕ) (once : IsDistinct f) (here : 0 < count_of f n) where
  own : (c : C) × (ks : Forest C) × (tree_of f n ≡ Tree n c ks Nil)
  own = tree_is f n (omega (arith, once n, here))

  in_tree_once : (l : ℕ) → count_of (tree_of f n) l ≤ 1
  in_tree_once l = omega (arith, total-without (λ m _. cond (eqb m l) 1 0) f n, once l)

  -- a node is within itself
  pub within_self : IsWithin f n n
  within_self = rw own.2 (let t = eqb_refl_true n in rw t (omega arith))

  -- another node is within n only if its parent is
  pub within_parent : (l : ℕ) → n ≢ l → IsWithin f n l → (p : ℕ) × (parent_of f l ≡ Some p) × IsWithin f n p
  within_parent l off h =
      let t = Stands-count None (tree_of f n) l h in
      let up = parent_stands None (tree_of f n) l t.0 t.1 in
      elim (Stands-tree_of None None f n l t.0 (once n) t.1) [
        | inl (is, _, _, _) ↦ absurd (off is)
        | inr (_, st) ↦ (
            let found = seek_Stands None f l t.0 (once l) st in
            elim up [
              | inl (_, some) ↦ absurd (not_top l off some)
              | inr (p, r, is, stp, _) ↦ (p, rw found is, count_of-Stands None (tree_of f n) p r stp)
            ])
      ]
    where
      not_top : (l : ℕ) → n ≢ l → 0 < times (tops (tree_of f n)) l → ⊥
      not_top l off some =
          let some' : 0 < times (n ∷ []) l = subst (λ g. 0 < times (tops g) l) own.2 some in
          elim (eqb_tells n l) [ inl (_, is) ↦ off is | inr (t, _) ↦ (let some3 = rw t at some' in omega (arith, some3)) ]

  -- and it is, if its parent is
  pub within_child : (l p : ℕ) → parent_of f l ≡ Some p → IsWithin f n p → IsWithin f n l
  within_child l p is h =
      let t = Stands-count None (tree_of f n) p h in
      let up = child_of_parent f l p once is in
      let kids : 0 < times t.0.children l =
      elim (Stands-tree_of None None f n p t.0 (once n) t.1) [
        | inl (_, o, st, e) ↦ (
            let same : Some o ≡ Some up.0 = sym (seek_Stands None f p o (once p) st) ∙ up.2 in
            let same' : o.children ≡ up.0.children = (let s = same in cc) in
            rw (e, same') up.3)
        | inr (_, st) ↦ (
            let same : Some t.0 ≡ Some up.0 = sym (seek_Stands None f p t.0 (once p) st) ∙ up.2 in
            let same' : t.0.children ≡ up.0.children = (let s = same in cc) in
            rw same' up.3)
      ] in
      let k = child_stands None (tree_of f n) p t.0 l t.1 kids in
      count_of-Stands None (tree_of f n) l k.0 k.1

module _ {C : Type 0} (f : Forest C) (n : ℕ) (once : IsDistinct f) (here : 0 < count_of f n) where
  pub within_step : (l p : ℕ) → n ≢ l → parent_of f l ≡ Some p → IsWithin f n l → IsWithin f n p
  within_step l p off is h =
      let w = within_parent f n once here l off h in
      let same : w.0 ≡ p = (let t : Some w.0 ≡ Some p = sym w.1 ∙ is in cc) in
      subst (λ k. IsWithin f n k) same w.2

  pub within_root : (l : ℕ) → n ≢ l → parent_of f l ≡ None → IsWithin f n l → ⊥
  within_root l off is h = let w = within_parent f n once here l off h in let t : Some w.0 ≡ None = sym w.1 ∙ is in cc

  pub within_at : (l : ℕ) → l ≡ n → IsWithin f n l
  within_at l is = subst (λ k. IsWithin f n k) (sym is) (within_self f n once here)

-- ---- depth

module _ {C : Type 0} where
  -- a node of label l stands e deep, where the trees of the forest stand d deep
  abbrev pub Sits : ℕ → Forest C → ℕ → ℕ → Type 0
  Sits d Nil l e = ⊥
  Sits d (Tree m c ks rest) l e =
      ((m ≡ l) × (e ≡ d)) ⊎ (Sits (d + 1) ks l e ⊎ Sits d rest l e)

  pub count_of-Sits : (d : ℕ) (f : Forest C) (l e : ℕ) → Sits d f l e → 0 < count_of f l
  count_of-Sits d Nil l e h = absurd h
  count_of-Sits d (Tree m c ks rest) l e (inl (is, _)) = elim (eqb_tells m l) [ inl (t, _) ↦ rw t (omega arith) | inr (_, off) ↦ absurd (off is) ]
  count_of-Sits d (Tree m c ks rest) l e (inr (inl h)) = omega (arith, count_of-Sits (d + 1) ks l e h)
  count_of-Sits d (Tree m c ks rest) l e (inr (inr h)) = omega (arith, count_of-Sits d rest l e h)

  pub depth_absent : (d : ℕ) (f : Forest C) (l : ℕ) → count_of f l ≡ 0 → depth_from d f l ≡ None
  depth_absent d Nil l none = refl
  depth_absent d (Tree m c ks rest) l none =
      elim (eqb_tells m l) [
        | inl (t, _) ↦ absurd (let none' = rw t at none in omega (arith, none'))
        | inr (t, _) ↦ (let none' = rw t at none in rw (t, depth_absent (d + 1) ks l (omega (arith, none'))) (depth_absent d rest l (omega (arith, none'))))
      ]

  pub depth_Sits : (d : ℕ) (f : Forest C) (l e : ℕ) → count_of f l ≤ 1 → Sits d f l e → depth_from d f l ≡ Some e
  depth_Sits d Nil l e once h = absurd h
  depth_Sits d (Tree m c ks rest) l e once (inl (is, at)) = elim (eqb_tells m l) [ inl (t, _) ↦ rw t (ap Some (sym at)) | inr (_, off) ↦ absurd (off is) ]
  depth_Sits d (Tree m c ks rest) l e once (inr (inl h)) =
      let here = count_of-Sits (d + 1) ks l e h in
      elim (eqb_tells m l) [
        | inl (t, _) ↦ absurd (let once' = rw t at once in omega (arith, once', here))
        | inr (t, _) ↦ rw (t, depth_Sits (d + 1) ks l e (omega (arith, once)) h) refl
      ]
  depth_Sits d (Tree m c ks rest) l e once (inr (inr h)) =
      let here = count_of-Sits d rest l e h in
      elim (eqb_tells m l) [
        | inl (t, _) ↦ absurd (let once' = rw t at once in omega (arith, once', here))
        | inr (t, _) ↦ rw (t, depth_absent (d + 1) ks l (omega (arith, once, here))) (depth_Sits d rest l e (omega (arith, once)) h)
      ]

  Sits_low : (d : ℕ) (f : Forest C) (l e : ℕ) → Sits d f l e → e < d + total (λ _ _. 1) f
  Sits_low d Nil l e h = absurd h
  Sits_low d (Tree m c ks rest) l e (inl (_, at)) = omega (arith, at)
  Sits_low d (Tree m c ks rest) l e (inr (inl h)) = omega (arith, Sits_low (d + 1) ks l e h)
  Sits_low d (Tree m c ks rest) l e (inr (inr h)) = omega (arith, Sits_low d rest l e h)

  -- a node stands at the top, or one below its parent
  above_it : (q : Option ℕ) (d : ℕ) (f : Forest C) (l : ℕ) (s : Seen C) → Stands q f l s → ((s.parent ≡ q) × Sits d f l d) ⊎ ((p : ℕ) × (e : ℕ) × (s.parent ≡ Some p) × Sits d f p e × Sits d f l (e + 1))
  above_it q d Nil l s h = absurd h
  above_it q d (Tree m c ks rest) l s (inl (is, e)) = inl (ap (λ (x : Seen C). x.parent) e, inl (is, refl))
  above_it q d (Tree m c ks rest) l s (inr (inl h)) =
      elim (above_it (Some m) (d + 1) ks l s h) [
        | inl (is, t) ↦ inr (m, d, is, inl (refl, refl), inr (inl t))
        | inr (p, e, is, t, u) ↦ inr (p, e, is, inr (inl t), inr (inl u))
      ]
  above_it q d (Tree m c ks rest) l s (inr (inr h)) =
      elim (above_it q d rest l s h) [
        | inl (is, t) ↦ inl (is, inr (inr t))
        | inr (p, e, is, t, u) ↦ inr (p, e, is, inr (inr t), inr (inr u))
      ]

  pub depth_of-parent : (f : Forest C) (l p : ℕ) → IsDistinct f → parent_of f l ≡ Some p → depth_of f l ≡ depth_of f p + 1
  depth_of-parent f l p once is =
      let h = parent_count f l p once is in
      let s = seen f l once h.0 in
      let own : s.0.parent ≡ Some p = rw s.2 at is in
      elim (above_it None 0 f l s.0 s.1) [
        | inl (none, _) ↦ absurd (let t = none in cc)
        | inr (q, e, at, t, u) ↦ (
            let same : q ≡ p = (let t = at in cc) in
            let t' = rw same at t in
            rw (depth_Sits 0 f l (e + 1) (once l) u, depth_Sits 0 f p e (once p) t') refl)
      ]

  pub depth_of-root : (f : Forest C) (l : ℕ) → IsDistinct f → 0 < count_of f l → parent_of f l ≡ None → depth_of f l ≡ 0
  depth_of-root f l once h root =
      let s = seen f l once h in
      let own : s.0.parent ≡ None = rw s.2 at root in
      elim (above_it None 0 f l s.0 s.1) [
        | inl (_, t) ↦ rw (depth_Sits 0 f l 0 (once l) t) refl
        | inr (_, _, at, _, _) ↦ absurd (let t = at in cc)
      ]

  pub depth_of_low : (f : Forest C) (l : ℕ) → IsDistinct f → 0 < count_of f l → depth_of f l < total (λ _ _. 1) f
  depth_of_low f l once h =
      let s = seen f l once h in
      elim (above_it None 0 f l s.0 s.1) [
        | inl (_, t) ↦ rw (depth_Sits 0 f l 0 (once l) t) (omega (arith, Sits_low 0 f l 0 t))
        | inr (q, e, at, t, u) ↦ rw (depth_Sits 0 f l (e + 1) (once l) u) (omega (arith, Sits_low 0 f l (e + 1) u))
      ]

-- ---- ancestors

module _ {C : Type 0} (f : Forest C) (once : IsDistinct f) where
  -- what stands below a node stands below its parent
  within_up_at : (k l p n : ℕ) → parent_of f l ≡ Some p → depth_of f n ≡ k → IsWithin f l n → IsWithin f p n
  within_up_at zero l p n child deep h =
      let count = parent_count f l p once child in
      elim (eqb_tells l n) [
        | inl (_, is) ↦ subst (λ x. IsWithin f p x) is (within_child f p once count.1 l p child (within_self f p once count.1))
        | inr (_, off) ↦ absurd (let w = within_parent f l once count.0 n off h in let more = depth_of-parent f n w.0 once w.1 in omega (arith, deep, more))
      ]
  within_up_at (suc k) l p n child deep h =
      let count = parent_count f l p once child in
      elim (eqb_tells l n) [
        | inl (_, is) ↦ subst (λ x. IsWithin f p x) is (within_child f p once count.1 l p child (within_self f p once count.1))
        | inr (_, off) ↦ (
            let w = within_parent f l once count.0 n off h in
            let more = depth_of-parent f n w.0 once w.1 in
            within_child f p once count.1 n w.0 w.1 (within_up_at k l p w.0 child (omega (arith, deep, more)) w.2))
      ]

  pub within_up : (l p n : ℕ) → parent_of f l ≡ Some p → IsWithin f l n → IsWithin f p n
  within_up l p n child h = within_up_at (depth_of f n) l p n child refl h

  pub has_parent : (l : ℕ) → 0 < count_of f l → 0 < depth_of f l → (p : ℕ) × (parent_of f l ≡ Some p)
  has_parent l h deep = by_parent (parent_of f l) refl
    where
      by_parent : (o : Option ℕ) → parent_of f l ≡ o → (p : ℕ) × (o ≡ Some p)
      by_parent None e = absurd (let zero_deep = depth_of-root f l once h e in omega (arith, zero_deep, deep))
      by_parent (Some p) e = (p, refl)
