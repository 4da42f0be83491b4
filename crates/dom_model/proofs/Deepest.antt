-- Bounds on sums over a forest, its deepest node, and the height of a tree.
use Rattle.std.proofs.Common.{◌≡◌, ◌⊎◌, ℕ, zero, suc, ◌+◌, ◌*◌, ◌<◌, ◌≤◌, max, Option, Some, None, refl, sym, ap, subst, inl, inr, arith, mul-add, mul-one}
use Rattle.std.proofs.lemmas.Bool.Decides.{eqb_tells}
use Rattle.std.specs.Option.{option_map_or}
use Rattle.dom_model.specs.Forest.{Forest, Seen, tops, total, count_of, IsDistinct, seek, depth_of, tree_of, join}
use Rattle.dom_model.specs.Forest.Forest.{Nil, Tree}
use Rattle.dom_model.specs.Places.{levels, kids_in}
use Rattle.dom_model.proofs.Stands.{Stands, seek_Stands}
use Rattle.dom_model.proofs.Within.{Sits, count_of-Sits, depth_Sits}

module _ {C : Type 0} where
  -- where no node weighs more than b, all weigh no more than b times their number
  total_bound : (w : ℕ → C → ℕ) (b : ℕ) (q : Option ℕ) (f : Forest C) → ((l : ℕ) (s : Seen C) → Stands q f l s → w l s.content ≤ b) → total w f ≤ b * total (λ _ _. 1) f
  total_bound w b q Nil low = omega arith
  total_bound w b q (Tree m c ks rest) low =
      let one = low m (record { parent = q; content = c; children = tops ks }) (inl (refl, refl)) in
      let two = total_bound w b (Some m) ks (λ l s h. low l s (inr (inl h))) in
      let three = total_bound w b q rest (λ l s h. low l s (inr (inr h))) in
      let sum : b * (1 + (total (λ _ _. 1) ks + total (λ _ _. 1) rest)) ≡ b + (b * total (λ _ _. 1) ks + b * total (λ _ _. 1) rest) = distributed b (total (λ _ _. 1) ks) (total (λ _ _. 1) rest) in
      omega (arith, one, two, three, sum)
    where
      distributed : (b i j : ℕ) → b * (1 + (i + j)) ≡ b + (b * i + b * j)
      distributed b i j = grind (arith, mul-add, mul-one)

  pub total-bound : (w : ℕ → C → ℕ) (b : ℕ) (f : Forest C) → IsDistinct f → ((l : ℕ) (s : Seen C) → seek None f l ≡ Some s → w l s.content ≤ b) → total w f ≤ b * total (λ _ _. 1) f
  total-bound w b f once low = total_bound w b None f (λ l s h. low l s (seek_Stands None f l s (once l) h))

  -- ---- the deepest node

  sits_somewhere : (d : ℕ) (f : Forest C) (l : ℕ) → 0 < count_of f l → (e : ℕ) × Sits d f l e
  sits_somewhere d Nil l h = absurd (omega (arith, h))
  sits_somewhere d (Tree m c ks rest) l h = elim (eqb_tells m l) [
    | inl (_, is) ↦ (d, inl (is, refl))
    | inr (t, _) ↦ (let h' = rw t at h in elim (either_positive (count_of ks l) (count_of rest l) h') [
      | inl k ↦ (let r = sits_somewhere (d + 1) ks l k in (r.0, inr (inl r.1)))
      | inr k ↦ (let r = sits_somewhere d rest l k in (r.0, inr (inr r.1)))
    ])
  ]
    where
      either_positive : (a b : ℕ) → 0 < 0 + (a + b) → (0 < a) ⊎ (0 < b)
      either_positive a b h = grind arith

  Sits_high : (d : ℕ) (f : Forest C) (l e : ℕ) → Sits d f l e → e < d + levels f
  Sits_high d Nil l e h = absurd h
  Sits_high d (Tree m c ks rest) l e (inl (_, at)) = omega (arith, at)
  Sits_high d (Tree m c ks rest) l e (inr (inl h)) = omega (arith, Sits_high (d + 1) ks l e h)
  Sits_high d (Tree m c ks rest) l e (inr (inr h)) = omega (arith, Sits_high d rest l e h)

  -- some node is as deep as there are levels
  Sits_deepest : (d : ℕ) (f : Forest C) → 0 < levels f → (l : ℕ) × (e : ℕ) × Sits d f l e × (e + 1 ≡ d + levels f)
  Sits_deepest d Nil some = absurd (omega (arith, some))
  Sits_deepest d (Tree m c ks rest) some =
      elim (which (levels ks) (levels rest)) [
        | inl (inl (none, at)) ↦ (m, d, inl (refl, refl), omega (arith, none, at))
        | inl (inr (more, at)) ↦ (let r = Sits_deepest (d + 1) ks more in (r.0, r.1, inr (inl r.2), omega (arith, r.3, at)))
        | inr (more, at) ↦ (let r = Sits_deepest d rest more in (r.0, r.1, inr (inr r.2), omega (arith, r.3, at)))
      ]
    where
      which : (i j : ℕ) → (((i ≡ 0) × (max (i + 1) j ≡ i + 1)) ⊎ ((0 < i) × (max (i + 1) j ≡ i + 1))) ⊎ ((0 < j) × (max (i + 1) j ≡ j))
      which i j = grind arith

  -- the depth that no node of the first tree passes and that one of them has is that of the deepest
  pub deepest_is : (f : Forest C) (c : C) (ks rest : Forest C) (d x : ℕ) → f ≡ Tree 0 c ks rest → IsDistinct f → ((l : ℕ) → 0 < count_of (tree_of f 0) l → depth_of f l ≤ d) → 0 < count_of (tree_of f 0) x → depth_of f x ≡ d → levels (kids_in (tree_of f 0)) ≡ d
  deepest_is f c ks rest d x is = subst (λ g. IsDistinct g → ((l : ℕ) → 0 < count_of (tree_of g 0) l → depth_of g l ≤ d) → 0 < count_of (tree_of g 0) x → depth_of g x ≡ d → levels (kids_in (tree_of g 0)) ≡ d) (sym is)
      (λ once high here at. bounds once high here at)
    where
      lies : IsDistinct (Tree 0 c ks rest) → (l e : ℕ) → Sits 0 (Tree 0 c ks Nil) l e → depth_of (Tree 0 c ks rest) l ≡ e
      lies once l e (inl s) = ap (λ o. option_map_or (λ (n : ℕ). n) o 0) (depth_Sits 0 (Tree 0 c ks rest) l e (once l) (inl s))
      lies once l e (inr (inl s)) = ap (λ o. option_map_or (λ (n : ℕ). n) o 0) (depth_Sits 0 (Tree 0 c ks rest) l e (once l) (inr (inl s)))
      lies once l e (inr (inr s)) = absurd s

      upper : IsDistinct (Tree 0 c ks rest) → 0 < count_of (Tree 0 c ks Nil) x → depth_of (Tree 0 c ks rest) x ≡ d → d ≤ levels ks
      upper once here at =
          let s = sits_somewhere 0 (Tree 0 c ks Nil) x here in
          let low = Sits_high 0 (Tree 0 c ks Nil) x s.0 s.1 in
          omega (arith, low, lies once x s.0 s.1, at)

      by_levels : (n : ℕ) → levels ks ≡ n → IsDistinct (Tree 0 c ks rest) → ((l : ℕ) → 0 < count_of (Tree 0 c ks Nil) l → depth_of (Tree 0 c ks rest) l ≤ d) → levels ks ≤ d
      by_levels zero e once high = omega (arith, e)
      by_levels (suc n) e once high =
          let r = Sits_deepest 1 ks (omega (arith, e)) in
          let at : Sits 0 (Tree 0 c ks Nil) r.0 r.1 = inr (inl r.2) in
          let h = high r.0 (count_of-Sits 0 (Tree 0 c ks Nil) r.0 r.1 at) in
          omega (arith, h, lies once r.0 r.1 at, r.3)

      bounds : IsDistinct (Tree 0 c ks rest) → ((l : ℕ) → 0 < count_of (Tree 0 c ks Nil) l → depth_of (Tree 0 c ks rest) l ≤ d) → 0 < count_of (Tree 0 c ks Nil) x → depth_of (Tree 0 c ks rest) x ≡ d → levels ks ≡ d
      bounds once high here at = omega (arith, upper once here at, by_levels (levels ks) refl once high)

  -- ---- the height of a tree

  Sits-join : (d : ℕ) (f g : Forest C) (l e : ℕ) → Sits d (join f g) l e → Sits d f l e ⊎ Sits d g l e
  Sits-join d Nil g l e h = inr h
  Sits-join d (Tree m c ks rest) g l e (inl h) = inl (inl h)
  Sits-join d (Tree m c ks rest) g l e (inr (inl h)) = inl (inr (inl h))
  Sits-join d (Tree m c ks rest) g l e (inr (inr h)) = elim (Sits-join d rest g l e h) [ inl k ↦ inl (inr (inr k)) | inr k ↦ inr k ]

  -- where n stands k deep, the nodes of its tree stand so deep below k as they do in the tree
  Sits-tree_of : (d k : ℕ) (f : Forest C) (n : ℕ) → ((e : ℕ) → Sits d f n e → k ≡ e) → (l e : ℕ) → Sits k (tree_of f n) l e → Sits d f l e
  Sits-tree_of d k Nil n deep l e h = h
  Sits-tree_of d k (Tree m c ks rest) n deep l e h =
      elim (eqb_tells m n) [
        | inl (t, is) ↦ own (subst (λ i. Sits i (Tree m c ks Nil) l e) (deep d (inl (is, refl))) (rw t at h))
        | inr (t, _) ↦ by_part (Sits-tree_of (d + 1) k ks n (λ i s. deep i (inr (inl s))) l e) (Sits-tree_of d k rest n (λ i s. deep i (inr (inr s))) l e)
            (Sits-join k (tree_of ks n) (tree_of rest n) l e (rw t at h))
      ]
    where
      own : Sits d (Tree m c ks Nil) l e → Sits d (Tree m c ks rest) l e
      own (inl s) = inl s
      own (inr (inl s)) = inr (inl s)
      own (inr (inr s)) = absurd s

      by_part : (Sits k (tree_of ks n) l e → Sits (d + 1) ks l e) → (Sits k (tree_of rest n) l e → Sits d rest l e) → Sits k (tree_of ks n) l e ⊎ Sits k (tree_of rest n) l e → Sits d (Tree m c ks rest) l e
      by_part below after (inl s) = inr (inl (below s))
      by_part below after (inr s) = inr (inr (after s))

  -- what no node of a tree passes below its root and one of them has is its height
  pub height_is : (f : Forest C) (n d x : ℕ) → IsDistinct f → ((l : ℕ) → 0 < count_of (tree_of f n) l → depth_of f l ≤ d + depth_of f n) → 0 < count_of (tree_of f n) x → depth_of f x ≡ d + depth_of f n → levels (tree_of f n) ≡ d + 1
  height_is f n d x once high here at = omega (arith, lower, upper)
    where
      lies : (l e : ℕ) → Sits (depth_of f n) (tree_of f n) l e → depth_of f l ≡ e
      lies l e h = ap (λ o. option_map_or (λ (i : ℕ). i) o 0) (depth_Sits 0 f l e (once l)
          (Sits-tree_of 0 (depth_of f n) f n (λ i s. ap (λ o. option_map_or (λ (j : ℕ). j) o 0) (depth_Sits 0 f n i (once n) s)) l e h))

      lower : d < levels (tree_of f n)
      lower =
          let s = sits_somewhere (depth_of f n) (tree_of f n) x here in
          let low = Sits_high (depth_of f n) (tree_of f n) x s.0 s.1 in
          omega (arith, low, lies x s.0 s.1, at)

      upper : levels (tree_of f n) ≤ d + 1
      upper =
          let r = Sits_deepest (depth_of f n) (tree_of f n) (omega (arith, lower)) in
          let h = high r.0 (count_of-Sits (depth_of f n) (tree_of f n) r.0 r.1 r.2) in
          omega (arith, h, lies r.0 r.1 r.2, r.3)
