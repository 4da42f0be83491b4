-- How deep the document is once a tree comes to stand under a node of it.
use Rattle.std.proofs.Common.{◌≡◌, ◌⊎◌, ℕ, ◌+◌, ◌<◌, ◌≤◌, ◌↔◌, max, true, false, cond, eqb, Option, Some, refl, sym, ap, subst, ◌∙◌, inl, inr, arith}
use Rattle.std.proofs.lemmas.Bool.{ne_eqb}
use Rattle.std.proofs.lemmas.Bool.Decides.{eqb_tells}
use Rattle.std.specs.Option.{option_map_or}
use Rattle.page_grammar.specs.DomModel.declared.Content.{Content}
use Rattle.page_grammar.specs.DomModel.Document.{page_depth}
use Rattle.page_grammar.specs.DomModel.Forest.{Forest, join, tree_of, without, is_label, count_of, IsDistinct, IsWithin, parent_of, put_before, put_under, link, unlink, depth_of}
use Rattle.page_grammar.specs.DomModel.Forest.Forest.{Nil, Tree}
use Rattle.page_grammar.specs.DomModel.Places.{levels, kids_in}
use Rattle.page_grammar.proofs.DomModel.DropTree.{depth_of-without, without-unlink}
use Rattle.page_grammar.proofs.DomModel.Heights.{page_depth-link, page_depth-unlink}
use Rattle.page_grammar.proofs.DomModel.Move.{tree_of-unlink}
use Rattle.page_grammar.proofs.DomModel.Totals.{total-join, total-without, put_under_nowhere}
use Rattle.page_grammar.proofs.DomModel.Within.{Sits, count_of-Sits, depth_Sits}
use Rattle.edit_parts.proofs.EditModel.Documents.{document_of-link, document_of-unlink}

module _ {C : Type 0} where
  -- ---- a tree that is put somewhere is no higher than all

  levels_first : (t g : Forest C) → levels t ≤ levels (join t g)
  levels_first Nil g = omega arith
  levels_first (Tree m c ks rest) g = more (levels ks) (levels rest) (levels (join rest g)) (levels_first rest g)
    where
      more : (i j k : ℕ) → j ≤ k → max (i + 1) j ≤ max (i + 1) k
      more i j k h = grind arith

  levels_put : (f : Forest C) (b : Option ℕ) (t : Forest C) → levels t ≤ levels (put_before f b t)
  levels_put Nil b t = omega arith
  levels_put (Tree m c ks rest) b t =
      elim (is_label b m) as (λ v. levels t ≤ levels (cond v (join t (Tree m c ks rest)) (Tree m c ks (put_before rest b t)))) [
        | true ↦ levels_first t (Tree m c ks rest)
        | false ↦ more (levels ks) (levels t) (levels (put_before rest b t)) (levels_put rest b t)
      ]
    where
      more : (i j k : ℕ) → j ≤ k → j ≤ max (i + 1) k
      more i j k h = grind arith

  -- where the trees of the forest stand d deep, and p stands e deep
  levels_put_under : (d : ℕ) (f : Forest C) (p e : ℕ) (b : Option ℕ) (t : Forest C) → count_of f p ≤ 1 → Sits d f p e → e + 1 + levels t ≤ levels (put_under f p b t) + d
  levels_put_under d Nil p e b t once h = absurd h
  levels_put_under d (Tree m c ks rest) p e b t once h =
      elim (eqb_tells m p) [
        | inl (same, _) ↦ rw same (own (rw same at once) h)
        | inr (off, apart) ↦ (
            let once' : 0 + (count_of ks p + count_of rest p) ≤ 1 = rw off at once in
            rw off (below apart (levels_put_under (d + 1) ks p e b t (omega (arith, once'))) (levels_put_under d rest p e b t (omega (arith, once'))) h))
      ]
    where
      here : (i j h l : ℕ) → h ≤ l → i ≡ d → i + 1 + h ≤ max (l + 1) j + d
      here i j h l low at = grind arith

      deep : (i j l h : ℕ) → i + 1 + h ≤ l + (d + 1) → i + 1 + h ≤ max (l + 1) j + d
      deep i j l h low = grind arith

      after : (i j l h : ℕ) → i + 1 + h ≤ l + d → i + 1 + h ≤ max (j + 1) l + d
      after i j l h low = grind arith

      own : 1 + (count_of ks p + count_of rest p) ≤ 1 → Sits d (Tree m c ks rest) p e → e + 1 + levels t ≤ max (levels (put_before ks b t) + 1) (levels rest) + d
      own once (inl (_, at)) = here e (levels rest) (levels t) (levels (put_before ks b t)) (levels_put ks b t) at
      own once (inr (inl k)) = absurd (omega (arith, once, count_of-Sits (d + 1) ks p e k))
      own once (inr (inr k)) = absurd (omega (arith, once, count_of-Sits d rest p e k))

      below : (m ≡ p → ⊥) → (Sits (d + 1) ks p e → e + 1 + levels t ≤ levels (put_under ks p b t) + (d + 1)) → (Sits d rest p e → e + 1 + levels t ≤ levels (put_under rest p b t) + d) → Sits d (Tree m c ks rest) p e
          → e + 1 + levels t ≤ max (levels (put_under ks p b t) + 1) (levels (put_under rest p b t)) + d
      below apart down on (inl (same, _)) = absurd (apart same)
      below apart down on (inr (inl k)) = deep e (levels (put_under rest p b t)) (levels (put_under ks p b t)) (levels t) (down k)
      below apart down on (inr (inr k)) = after e (levels (put_under ks p b t)) (levels (put_under rest p b t)) (levels t) (on k)

  -- each node stands at some depth
  sits_some : (d : ℕ) (f : Forest C) (p : ℕ) → 0 < count_of f p → (e : ℕ) × Sits d f p e
  sits_some d Nil p h = absurd (omega (arith, h))
  sits_some d (Tree m c ks rest) p h =
      elim (eqb_tells m p) [
        | inl (_, is) ↦ (d, inl (is, refl))
        | inr (off, _) ↦ (let h' = rw off at h in elim (split (count_of ks p) (count_of rest p) h') [
          | inl k ↦ (let s = sits_some (d + 1) ks p k in (s.0, inr (inl s.1)))
          | inr k ↦ (let s = sits_some d rest p k in (s.0, inr (inr s.1)))
        ])
      ]
    where
      split : (i j : ℕ) → 0 < 0 + (i + j) → (0 < i) ⊎ (0 < j)
      split i j h = grind arith

-- ---- the document

reached : (g : Forest Content) (p e : ℕ) (b : Option ℕ) (t : Forest Content) → count_of g p ≤ 1 → Sits 1 g p e → e + levels t ≤ levels (put_under g p b t)
reached g p e b t once s = (let low = levels_put_under 1 g p e b t once s in omega (arith, low))

-- a tree of height levels t comes to stand under p, where p stands in the document and not in the tree of n
first_reaches : (c : Content) (ks rest : Forest Content) (p : ℕ) (b : Option ℕ) (n : ℕ) (t : Forest Content) → eqb 0 n ≡ false → IsDistinct (Tree 0 c ks rest) → count_of (tree_of (Tree 0 c ks rest) n) p ≡ 0
    → IsWithin (Tree 0 c ks rest) 0 p → depth_of (Tree 0 c ks rest) p + levels t ≤ page_depth (put_under (without (Tree 0 c ks rest) n) p b t)
first_reaches c ks rest p b n t inner once apart inside =
    elim (eqb_tells 0 p) [
      | inl (same, _) ↦ rw (inner, same) (omega (arith, levels_put (without ks n) b t))
      | inr (off, _) ↦ (
          let w : ℕ → Content → ℕ = λ m _. cond (eqb m p) 1 0 in
          let inside' : 0 < 0 + (count_of ks p + 0) = rw off at inside in
          let apart' : count_of (join (tree_of ks n) (tree_of rest n)) p ≡ 0 = rw inner at apart in
          let once' : 0 + (count_of ks p + count_of rest p) ≤ 1 = rw off at (once p) in
          let split = total-without w ks n in
          let some : 0 < count_of (without ks n) p = omega (arith, inside', apart', split, total-join w (tree_of ks n) (tree_of rest n)) in
          at_depth off (omega (arith, split, once')) (sits_some 1 (without ks n) p some))
    ]
  where
    at_depth : eqb 0 p ≡ false → count_of (without ks n) p ≤ 1 → (e : ℕ) × Sits 1 (without ks n) p e → depth_of (Tree 0 c ks rest) p + levels t ≤ page_depth (put_under (without (Tree 0 c ks rest) n) p b t)
    at_depth off few (e, s) =
        let w : ℕ → Content → ℕ = λ m _. cond (eqb m p) 1 0 in
        let f : Forest Content = Tree 0 c ks rest in
        let at : Sits 0 (without f n) p e = rw inner (inr (inl s)) in
        let rare : count_of (without f n) p ≤ 1 = omega (arith, total-without w f n, once p) in
        let deep : depth_of (without f n) p ≡ e = ap (λ o. option_map_or (λ (d : ℕ). d) o 0) (depth_Sits 0 (without f n) p e rare at) in
        let is : depth_of f p ≡ e = sym (depth_of-without f n p apart) ∙ deep in
        let low : e + levels t ≤ page_depth (put_under (without f n) p b t) = rw (inner, off) (reached (without ks n) p e b t few s) in
        subst (λ k. k + levels t ≤ page_depth (put_under (without f n) p b t)) (sym is) low

module _ (f : Forest Content) (c : Content) (ks rest : Forest Content) (is : f ≡ Tree 0 c ks rest) (once : IsDistinct f) (p : ℕ) (b : Option ℕ) (n : ℕ) (inner : 0 < n) where
  reaches : count_of (tree_of f n) p ≡ 0 → IsWithin f 0 p → depth_of f p + levels (tree_of f n) ≤ page_depth (link f p b n)
  reaches =
      let t = tree_of f n in
      let off : eqb 0 n ≡ false = ne_eqb 0 n (λ e. omega (arith, inner, e)) in
      subst (λ g. count_of (tree_of g n) p ≡ 0 → IsWithin g 0 p → depth_of g p + levels t ≤ page_depth (put_under (without g n) p b t)) (sym is)
      (first_reaches c ks rest p b n t off (subst (λ g. IsDistinct g) is once))

  -- a tree that comes to stand elsewhere makes nothing deeper
  outside : count_of (tree_of f 0) p ≡ 0 → page_depth (link f p b n) ≤ page_depth f
  outside none =
      let w : ℕ → Content → ℕ = λ m _. cond (eqb m p) 1 0 in
      let left : count_of (without (tree_of f 0) n) p ≡ 0 = omega (arith, none, total-without w (tree_of f 0) n) in
      let same : page_depth (link f p b n) ≡ page_depth (unlink f n) =
      ap (λ (t : Forest Content). levels (kids_in t)) (document_of-link f c ks rest p b n is inner ∙ (put_under_nowhere (without (tree_of f 0) n) p b (tree_of f n) left ∙ sym (document_of-unlink f c ks rest n is inner))) in
      omega (arith, same, page_depth-unlink f c ks rest n is inner)

  -- the tree of a child goes elsewhere as a loose one does
  pub link-unlink_same : (o : ℕ) → parent_of f n ≡ Some o → link (unlink f n) p b n ≡ link f p b n
  link-unlink_same o child =
      ap (λ (t : Forest Content). put_under (without (unlink f n) n) p b t) (tree_of-unlink f o n once child)
      ∙ ap (λ (g : Forest Content). put_under g p b (tree_of f n)) (without-unlink f o n once child)

  -- where the document isn't deeper than that yet, it comes to be exactly where the tree reaches deeper in it
  pub too_deep_in : (limit : ℕ) → page_depth f ≤ limit → count_of (tree_of f n) p ≡ 0 → IsWithin f 0 p → (limit < depth_of f p + levels (tree_of f n)) ↔ (limit < page_depth (link f p b n))
  too_deep_in limit low apart inside =
      let least = reaches apart inside in
      let most = page_depth-link f c ks rest p b n is inner once in
      (λ h. omega (arith, h, least), λ h. over limit (page_depth (link f p b n)) (page_depth f) (depth_of f p + levels (tree_of f n)) h most low)
    where
      over : (k i j r : ℕ) → k < i → i ≤ max j r → j ≤ k → k < r
      over k i j r h most low = grind arith

  pub within_limit : (limit : ℕ) → count_of (tree_of f n) p ≡ 0 → IsWithin f 0 p → page_depth (link f p b n) ≤ limit → depth_of f p + levels (tree_of f n) ≤ limit
  within_limit limit apart inside low = let least = reaches apart inside in omega (arith, least, low)

  pub no_deeper : (limit : ℕ) → page_depth f ≤ limit → count_of (tree_of f 0) p ≡ 0 → page_depth (link f p b n) ≤ limit
  no_deeper limit low none = omega (arith, low, outside none)
