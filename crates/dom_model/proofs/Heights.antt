-- How high a forest is after a tree is put under a node of it, or taken out.
use Rattle.std.proofs.Common.{◌≡◌, ℕ, ◌+◌, ◌<◌, ◌≤◌, max, true, false, cond, eqb, Option, Some, refl, sym, ap, subst, ◌∙◌, inl, inr, arith}
use Rattle.std.specs.Prelude.{nat_lt}
use Rattle.std.proofs.lemmas.Bool.{le-ltb}
use Rattle.std.proofs.lemmas.Bool.Decides.{eqb_tells}
use Rattle.dom_model.specs.declared.Content.{Content}
use Rattle.dom_model.specs.Document.{page_depth}
use Rattle.dom_model.specs.Forest.{Forest, total, join, tree_of, without, is_label, count_of, IsDistinct, IsWithin, parent_of, put_before, put_under, put_rising, link, unlink, with_leaf, depth_of}
use Rattle.dom_model.specs.Forest.Forest.{Nil, Tree}
use Rattle.dom_model.specs.Places.{levels}
use Rattle.dom_model.specs.Revised.{revised}
use Rattle.dom_model.proofs.Within.{Sits, depth_Sits}
use Rattle.dom_model.proofs.DropTree.{without-unlink}
use Rattle.dom_model.proofs.Links.{tree_is, tree_of_absent}
use Rattle.dom_model.proofs.Move.{tree_of-unlink}

module _ {C : Type 0} where
  levels-join : (f g : Forest C) → levels (join f g) ≡ max (levels f) (levels g)
  levels-join Nil g = none (levels g)
    where
      none : (j : ℕ) → j ≡ max 0 j
      none j = grind arith
  levels-join (Tree m c ks rest) g = ap (λ k. max (levels ks + 1) k) (levels-join rest g) ∙ three (levels ks) (levels rest) (levels g)
    where
      three : (i j k : ℕ) → max (i + 1) (max j k) ≡ max (max (i + 1) j) k
      three i j k = grind arith

  -- ---- taking a tree out

  levels-without : (f : Forest C) (n : ℕ) → levels (without f n) ≤ levels f
  levels-without Nil n = omega arith
  levels-without (Tree m c ks rest) n =
      elim (eqb_tells m n) [
        | inl (t, _) ↦ rw t (last (levels ks) (levels rest))
        | inr (t, _) ↦ rw t (both (levels (without ks n)) (levels ks) (levels (without rest n)) (levels rest) (levels-without ks n) (levels-without rest n))
      ]
    where
      last : (i j : ℕ) → j ≤ max (i + 1) j
      last i j = grind arith

      both : (i j k l : ℕ) → i ≤ j → k ≤ l → max (i + 1) k ≤ max (j + 1) l
      both i j k l h g = grind arith

  Sits-without : (d : ℕ) (f : Forest C) (n l e : ℕ) → Sits d (without f n) l e → Sits d f l e
  Sits-without d Nil n l e h = h
  Sits-without d (Tree m c ks rest) n l e h =
      elim (eqb_tells m n) [
        | inl (t, _) ↦ inr (inr (rw t at h))
        | inr (t, _) ↦ by_part (Sits-without (d + 1) ks n l e) (Sits-without d rest n l e) (rw t at h)
      ]
    where
      by_part : (Sits (d + 1) (without ks n) l e → Sits (d + 1) ks l e) → (Sits d (without rest n) l e → Sits d rest l e) → Sits d (Tree m c (without ks n) (without rest n)) l e → Sits d (Tree m c ks rest) l e
      by_part below after (inl k) = inl k
      by_part below after (inr (inl k)) = inr (inl (below k))
      by_part below after (inr (inr k)) = inr (inr (after k))

  -- ---- putting a tree under a node

  levels-put_before : (f : Forest C) (b : Option ℕ) (t : Forest C) → levels (put_before f b t) ≤ max (levels f) (levels t)
  levels-put_before Nil b t = grind arith
  levels-put_before (Tree m c ks rest) b t =
      elim (is_label b m) as (λ v. levels (cond v (join t (Tree m c ks rest)) (Tree m c ks (put_before rest b t))) ≤ max (levels (Tree m c ks rest)) (levels t)) [
        | true ↦ (let j = levels-join t (Tree m c ks rest) in swapped (levels (join t (Tree m c ks rest))) (levels t) (max (levels ks + 1) (levels rest)) j)
        | false ↦ more (levels ks) (levels rest) (levels t) (levels (put_before rest b t)) (levels-put_before rest b t)
      ]
    where
      swapped : (i j k : ℕ) → i ≡ max j k → i ≤ max k j
      swapped i j k h = grind arith

      more : (i j k l : ℕ) → l ≤ max j k → max (i + 1) l ≤ max (max (i + 1) j) k
      more i j k l h = grind arith

  -- where p stands at most k deep, and the trees of the forest d deep
  levels-put_under : (d k : ℕ) (f : Forest C) (p : ℕ) (b : Option ℕ) (t : Forest C) → ((e : ℕ) → Sits d f p e → e ≤ k) → levels (put_under f p b t) + d ≤ max (levels f + d) (k + 1 + levels t)
  levels-put_under d k Nil p b t low = grind arith
  levels-put_under d k (Tree m c ks rest) p b t low =
      elim (eqb_tells m p) [
        | inl (same, is) ↦ rw same (here (levels ks) (levels rest) (levels t) (levels (put_before ks b t)) (levels-put_before ks b t) (low d (inl (is, refl))))
        | inr (off, _) ↦ rw off (below (levels ks) (levels rest) (levels t) (levels (put_under ks p b t)) (levels (put_under rest p b t))
            (levels-put_under (d + 1) k ks p b t (λ e h. low e (inr (inl h)))) (levels-put_under d k rest p b t (λ e h. low e (inr (inr h)))))
      ]
    where
      here : (i j h l : ℕ) → l ≤ max i h → d ≤ k → max (l + 1) j + d ≤ max (max (i + 1) j + d) (k + 1 + h)
      here i j h l g low = grind arith

      below : (i j h l q : ℕ) → l + (d + 1) ≤ max (i + (d + 1)) (k + 1 + h) → q + d ≤ max (j + d) (k + 1 + h) → max (l + 1) q + d ≤ max (max (i + 1) j + d) (k + 1 + h)
      below i j h l q g g' = grind arith

  sits_low : (f : Forest C) (p e : ℕ) → IsDistinct f → Sits 0 f p e → e ≤ depth_of f p
  sits_low f p e once h = let is = depth_Sits 0 f p e (once p) h in rw is (omega arith)

  -- ---- link

  pub levels-link : (f : Forest C) (p : ℕ) (b : Option ℕ) (n : ℕ) → IsDistinct f → levels (link f p b n) ≤ max (levels f) (depth_of f p + 1 + levels (tree_of f n))
  levels-link f p b n once =
      let low : (e : ℕ) → Sits 0 (without f n) p e → e ≤ depth_of f p = λ e h. sits_low f p e once (Sits-without 0 f n p e h) in
      high (levels (put_under (without f n) p b (tree_of f n))) (levels (without f n)) (levels f) (depth_of f p + 1 + levels (tree_of f n))
      (levels-put_under 0 (depth_of f p) (without f n) p b (tree_of f n) low) (levels-without f n)
    where
      high : (l i j h : ℕ) → l + 0 ≤ max (i + 0) h → i ≤ j → l ≤ max j h
      high l i j h g low = grind arith

  -- ---- a tree stands within the forest that it is in: what moves no further down makes nothing deeper

  levels-tree_of : (d x : ℕ) (f : Forest C) (n : ℕ) → ((e : ℕ) → Sits d f n e → x ≤ e) → levels (tree_of f n) + x ≤ max x (levels f + d)
  levels-tree_of d x Nil n high = grind arith
  levels-tree_of d x (Tree m c ks rest) n high =
      elim (eqb_tells m n) [
        | inl (same, is) ↦ rw same (own (levels ks) (levels rest) (high d (inl (is, refl))))
        | inr (off, _) ↦ rw (off, levels-join (tree_of ks n) (tree_of rest n)) (either (levels ks) (levels rest) (levels (tree_of ks n)) (levels (tree_of rest n))
            (levels-tree_of (d + 1) x ks n (λ e h. high e (inr (inl h)))) (levels-tree_of d x rest n (λ e h. high e (inr (inr h)))))
      ]
    where
      own : (i j : ℕ) → x ≤ d → max (i + 1) 0 + x ≤ max x (max (i + 1) j + d)
      own i j h = grind arith

      either : (i j k l : ℕ) → k + x ≤ max x (i + (d + 1)) → l + x ≤ max x (j + d) → max k l + x ≤ max x (max (i + 1) j + d)
      either i j k l h g = grind arith

  pub levels_within : (f : Forest C) (n : ℕ) → IsDistinct f → levels (tree_of f n) + depth_of f n ≤ max (depth_of f n) (levels f)
  levels_within f n once = ends (levels (tree_of f n)) (levels f) (depth_of f n) (levels-tree_of 0 (depth_of f n) f n high)
    where
      high : (e : ℕ) → Sits 0 f n e → depth_of f n ≤ e
      high e h = let is = depth_Sits 0 f n e (once n) h in rw is (omega arith)

      ends : (i j x : ℕ) → i + x ≤ max x (j + 0) → i + x ≤ max x j
      ends i j x h = grind arith

  pub levels_low : (f : Forest C) → levels f ≤ total (λ _ _. 1) f
  levels_low Nil = omega arith
  levels_low (Tree m c ks rest) = both (levels ks) (levels rest) (total (λ _ _. 1) ks) (total (λ _ _. 1) rest) (levels_low ks) (levels_low rest)
    where
      both : (i j k l : ℕ) → i ≤ k → j ≤ l → max (i + 1) j ≤ 1 + (k + l)
      both i j k l h g = grind arith

  -- ---- contents are no matter

  pub levels-revised : (f : Forest C) (n : ℕ) (g : C → C) → levels (revised f n g) ≡ levels f
  levels-revised Nil n g = refl
  levels-revised (Tree m c ks rest) n g = rw (levels-revised ks n g, levels-revised rest n g) refl

-- ---- the document: a tree of height levels - 1 comes to stand one below p

other : (n : ℕ) → 0 < n → eqb 0 n ≡ false
other n h = elim (eqb_tells 0 n) [ inl (_, is) ↦ absurd (omega (arith, h, is)) | inr (t, _) ↦ t ]

-- where p stands at most k deep
first_link : (c : Content) (ks rest : Forest Content) (p : ℕ) (b : Option ℕ) (n : ℕ) (t : Forest Content) (k : ℕ) → eqb 0 n ≡ false → ((e : ℕ) → Sits 0 (Tree 0 c ks rest) p e → e ≤ k)
    → page_depth (put_under (without (Tree 0 c ks rest) n) p b t) ≤ max (levels ks) (k + levels t)
first_link c ks rest p b n t k inner deep =
    elim (eqb_tells 0 p) [
      | inl (same, _) ↦ rw (inner, same) (top (levels (put_before (without ks n) b t)) (levels (without ks n)) (levels ks) (levels t) k (levels-put_before (without ks n) b t) (levels-without ks n))
      | inr (off, _) ↦ rw (inner, off) (under (levels (put_under (without ks n) p b t)) (levels (without ks n)) (levels ks) k (levels t)
          (levels-put_under 1 k (without ks n) p b t (λ e h. deep e (inr (inl (Sits-without 1 ks n p e h))))) (levels-without ks n))
    ]
  where
    top : (l i j h k : ℕ) → l ≤ max i h → i ≤ j → l ≤ max j (k + h)
    top l i j h k g less = grind arith

    under : (l i j k h : ℕ) → l + 1 ≤ max (i + 1) (k + 1 + h) → i ≤ j → l ≤ max j (k + h)
    under l i j k h g less = grind arith

-- the document stands first, as in every forest of a document
pub page_depth-link : (f : Forest Content) (c : Content) (ks rest : Forest Content) (p : ℕ) (b : Option ℕ) (n : ℕ) → f ≡ Tree 0 c ks rest → 0 < n → IsDistinct f
    → page_depth (link f p b n) ≤ max (page_depth f) (depth_of f p + levels (tree_of f n))
page_depth-link f c ks rest p b n is inner once =
    let t = tree_of f n in
    subst (λ g. page_depth (put_under (without g n) p b t) ≤ max (page_depth g) (depth_of g p + levels t)) (sym is)
    (first_link c ks rest p b n t (depth_of (Tree 0 c ks rest) p) (other n inner) (λ e h. sits_low (Tree 0 c ks rest) p e (subst (λ g. IsDistinct g) is once) h))

pub page_depth-unlink : (f : Forest Content) (c : Content) (ks rest : Forest Content) (n : ℕ) → f ≡ Tree 0 c ks rest → 0 < n → page_depth (unlink f n) ≤ page_depth f
page_depth-unlink f c ks rest n is inner =
    let t = tree_of f n in
    subst (λ g. page_depth (put_rising (without g n) n t) ≤ page_depth g) (sym is) (first t)
  where
    first : (t : Forest Content) → page_depth (put_rising (without (Tree 0 c ks rest) n) n t) ≤ levels ks
    first t =
        let high : nat_lt n 0 ≡ false = le-ltb n 0 (omega arith) in
        rw (other n inner, high) (levels-without ks n)

-- a tree moves from its parent to below p
pub page_depth-move : (f : Forest Content) (c : Content) (ks rest : Forest Content) (o p : ℕ) (b : Option ℕ) (n : ℕ) → f ≡ Tree 0 c ks rest → 0 < n → IsDistinct f → parent_of f n ≡ Some o
    → page_depth (link (unlink f n) p b n) ≤ max (page_depth f) (depth_of f p + levels (tree_of f n))
page_depth-move f c ks rest o p b n is inner once child =
    subst (λ g. page_depth (put_under g p b (tree_of (unlink f n) n)) ≤ max (page_depth f) (depth_of f p + levels (tree_of f n))) (sym (without-unlink f o n once child))
    (subst (λ t. page_depth (put_under (without f n) p b t) ≤ max (page_depth f) (depth_of f p + levels (tree_of f n))) (sym (tree_of-unlink f o n once child))
    (page_depth-link f c ks rest p b n is inner once))

pub page_depth-with_leaf : (f : Forest Content) (c : Content) (ks rest : Forest Content) (m : ℕ) (d : Content) → f ≡ Tree 0 c ks rest → page_depth (with_leaf f m d) ≡ page_depth f
page_depth-with_leaf f c ks rest m d is = subst (λ g. page_depth (with_leaf g m d) ≡ page_depth g) (sym is) refl

pub page_depth-revised : (f : Forest Content) (c : Content) (ks rest : Forest Content) (n : ℕ) (g : Content → Content) → f ≡ Tree 0 c ks rest → page_depth (revised f n g) ≡ page_depth f
page_depth-revised f c ks rest n g is = subst (λ h. page_depth (revised h n g) ≡ page_depth h) (sym is) (levels-revised ks n g)

-- a node of the document has its tree below it there
pub page_depth-within : (f : Forest Content) (c : Content) (ks rest : Forest Content) (n : ℕ) → f ≡ Tree 0 c ks rest → IsDistinct f → IsWithin f 0 n → levels (tree_of f n) + depth_of f n ≤ page_depth f + 1
page_depth-within f c ks rest n is once here =
    subst (λ g. levels (tree_of g n) + depth_of f n ≤ page_depth g + 1) (sym is)
    (first (depth_of f n) (λ e h. (let at = depth_Sits 0 f n e (once n) (subst (λ g. Sits 0 g n e) (sym is) h) in rw at refl)) (subst (λ g. count_of g n ≤ 1) is (once n)) (subst (λ g. IsWithin g 0 n) is here))
  where
    own : (i x : ℕ) → x ≡ 0 → max (i + 1) 0 + x ≤ i + 1
    own i x e = grind arith

    below : (i j x : ℕ) → i + x ≤ max x (j + 1) → 0 < i → max i 0 + x ≤ j + 1
    below i j x h some = grind arith

    some_level : (g : Forest Content) → count_of g n ≡ 1 → 0 < levels (tree_of g n)
    some_level g one = let t = tree_is g n one in subst (λ h. 0 < levels h) (sym t.2) (positive (levels t.1))
      where
        positive : (i : ℕ) → 0 < max (i + 1) 0
        positive i = grind arith

    first : (x : ℕ) → ((e : ℕ) → Sits 0 (Tree 0 c ks rest) n e → x ≡ e) → count_of (Tree 0 c ks rest) n ≤ 1 → IsWithin (Tree 0 c ks rest) 0 n → levels (tree_of (Tree 0 c ks rest) n) + x ≤ levels ks + 1
    first x deep once' here' =
        elim (eqb_tells 0 n) [
          | inl (same, at) ↦ rw same (own (levels ks) x (deep 0 (inl (at, refl))))
          | inr (off, _) ↦ (
              let once2 = rw off at once' in
              let here2 = rw off at here' in
              let none : count_of rest n ≡ 0 = omega (arith, once2, here2) in
              let low : levels (tree_of ks n) + x ≤ max x (levels ks + 1) = levels-tree_of 1 x ks n (λ e h. (let at = deep e (inr (inl h)) in omega (arith, at))) in
              rw (off, levels-join (tree_of ks n) (tree_of rest n), tree_of_absent rest n none) (below (levels (tree_of ks n)) (levels ks) x low (some_level ks (omega (arith, once2, here2)))))
        ]
