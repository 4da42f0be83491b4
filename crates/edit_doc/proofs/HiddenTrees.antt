-- Forests without some of their trees: what is seen, and the document alone.
use Rattle.std.proofs.Common.{◌≡◌, ℕ, zero, suc, ◌+◌, ◌<◌, ◌≤◌, Bool, true, false, true≢false, cond, List, Option, None, refl, sym, ap, subst, ◌∙◌, inl, inr, arith, eqb, nat_lt}
use Rattle.std.specs.Prelude.{◌&&◌, nat_le}
use Rattle.std.specs.Option.{option_map, option_map_or, option_and_then}
use Rattle.std.proofs.lemmas.Bool.Decides.{eqb_tells, nat_tests}
use Rattle.edit_model.specs.DomModel.declared.Content.{Content}
use Rattle.edit_model.specs.DomModel.Contents.{length_of, length_in}
use Rattle.edit_model.specs.DomModel.Document.{node_count, char_count, page_depth}
use Rattle.edit_model.specs.DomModel.Forest.{Forest, Seen, tops, times, count_of, tree_of, parent_of, IsDistinct, IsWithin, RisesFrom}
use Rattle.edit_model.specs.DomModel.Forest.Forest.{Nil, Tree}
use Rattle.edit_model.specs.DomModel.Places.{levels, kids_in}
use Rattle.edit_model.specs.DomModel.Pruned.{pruned}
use Rattle.edit_model.proofs.DomModel.Pruning.{count_of-pruned, seek-pruned, parent_of-pruned}
use Rattle.edit_model.proofs.DomModel.Stands.{true_or_false, times-tops, top_stands, seek_Stands, seek_absent}
use Rattle.edit_model.specs.LiveRange.LivePoints.{LivePoints}
use Rattle.step_edits.specs.ForestChanges.Change.{IsForest}
use Rattle.edit_model.specs.Valid.{IsPlaced, IsForest as IsModelForest}
use Rattle.edit_model.proofs.Points.{Leaves, points_left}
use Rattle.edit_model.proofs.Documents.{document_shape}
use Rattle.edit_doc.specs.History.{is_hidden}
use Rattle.edit_doc.specs.Counted.{IsCounted}
use Rattle.edit_parts.specs.declared.Counts.{Counts}

-- ---- tests

pub and_true : (a b : Bool) → (a && b) ≡ true → (a ≡ true) × (b ≡ true)
and_true true true e = (refl, refl)
and_true true false e = absurd (cc)
and_true false b e = absurd (cc)

pub both_true : (a b : Bool) → a ≡ true → b ≡ true → (a && b) ≡ true
both_true a b e d = rw (e, d) refl

pub lt_true : (a b : ℕ) → nat_lt a b ≡ true → a < b
lt_true a b e = grind (arith, nat_tests)

pub true_lt : (a b : ℕ) → a < b → nat_lt a b ≡ true
true_lt a b h = grind (arith, nat_tests)

pub le_false : (a b : ℕ) → b < a → nat_le a b ≡ false
le_false a b h = grind (arith, nat_tests)

pub le_true : (a b : ℕ) → a ≤ b → nat_le a b ≡ true
le_true a b h = grind (arith, nat_tests)

pub true_le : (a b : ℕ) → nat_le a b ≡ true → a ≤ b
true_le a b h = grind (arith, nat_tests)

pub false_le : (a b : ℕ) → nat_le a b ≡ false → b < a
false_le a b h = grind (arith, nat_tests)

-- ---- trees that are hidden

pub record Hidden (g : Forest Content) (start l : ℕ) : Type 0 where
  pub inner : 0 < l
  pub old : l < start
  pub root : 0 < times (tops g) l

pub hidden_is : (g : Forest Content) (start l : ℕ) → is_hidden g start l ≡ true → Hidden g start l
hidden_is g start l e =
    let a = and_true (nat_lt 0 l) (nat_lt l start && nat_lt 0 (times (tops g) l)) e in
    let b = and_true (nat_lt l start) (nat_lt 0 (times (tops g) l)) a.1 in
    record { inner = lt_true 0 l a.0; old = lt_true l start b.0; root = lt_true 0 (times (tops g) l) b.1 }

pub is_hidden_from : (g : Forest Content) (start l : ℕ) → Hidden g start l → is_hidden g start l ≡ true
is_hidden_from g start l h =
    both_true (nat_lt 0 l) (nat_lt l start && nat_lt 0 (times (tops g) l)) (true_lt 0 l h.inner)
    (both_true (nat_lt l start) (nat_lt 0 (times (tops g) l)) (true_lt l start h.old) (true_lt 0 (times (tops g) l) h.root))

-- ---- what is pruned

module _ {C : Type 0} where
  pub pruned-same : (k j : ℕ → Bool) (f : Forest C) → ((l : ℕ) → 0 < times (tops f) l → k l ≡ j l) → pruned k f ≡ pruned j f
  pruned-same k j Nil same = refl
  pruned-same k j (Tree m c ks rest) same =
      let e : k m ≡ j m = same m (own m (times (tops rest) m)) in
      let ih = pruned-same k j rest (λ l top. same l (omega (arith, top))) in
      rw (e, ih) refl
    where
      own : (m n : ℕ) → 0 < cond (eqb m m) 1 0 + n
      own m n = grind (arith, nat_tests)

  pub pruned-none : (f : Forest C) → pruned (λ _. false) f ≡ f
  pruned-none Nil = refl
  pruned-none (Tree m c ks rest) = ap (Tree m c ks) (pruned-none rest)

  -- what stays when fewer trees go
  pub pruned_more : (k j : ℕ → Bool) (f : Forest C) (l : ℕ) → ((m : ℕ) → j m ≡ true → k m ≡ true) → count_of (pruned k f) l ≤ count_of (pruned j f) l
  pruned_more k j Nil l less = omega arith
  pruned_more k j (Tree m c ks rest) l less =
      let ih = pruned_more k j rest l less in
      elim (true_or_false (j m)) [
        | inl e ↦ (let t = less m e in rw (e, t) ih)
        | inr e ↦ elim (true_or_false (k m)) [
          | inl t ↦ rw (e, t) (omega (arith, ih))
          | inr t ↦ rw (e, t) (omega (arith, ih))
        ]
      ]

  -- what stays on both counts stays when both sets of trees go
  pub both_detached : (k h : ℕ → Bool) (f : Forest C) (l : ℕ) → IsDistinct f → 0 < count_of (pruned k f) l → 0 < count_of (pruned h f) l → 0 < count_of (pruned h (pruned k f)) l
  both_detached k h Nil l once a b = a
  both_detached k h (Tree m c ks rest) l once a b =
      let own : ℕ = cond (eqb m l) 1 0 + count_of ks l in
      let one : own + count_of rest l ≤ 1 = omega (arith, once l) in
      let lk = count_of-pruned k rest l in
      let lh = count_of-pruned h rest l in
      let ih = both_detached k h rest l (λ n. omega (arith, once n)) in
      elim (true_or_false (k m)) [
        | inl e ↦ (let a' = rw e at a in elim (true_or_false (h m)) [
          | inl t ↦ (let b' = rw t at b in rw e (ih a' b'))
          | inr t ↦ (let b' = rw t at b in rw e (ih a' (omega (arith, a', b', one, lk))))
        ])
        | inr e ↦ (let a' = rw e at a in elim (true_or_false (h m)) [
          | inl t ↦ (let b' = rw t at b in rw (e, t) (ih (omega (arith, a', b', one, lh)) b'))
          | inr t ↦ (let b' = rw t at b in (let sum : 0 < own + count_of (pruned h (pruned k rest)) l = by_own own (count_of (pruned k rest) l) (count_of (pruned h rest) l) (count_of (pruned h (pruned k rest)) l) (omega (arith, a')) (omega (arith, b')) ih in rw (e, t) (omega (arith, sum))))
        ])
      ]
    where
      by_own : (own x y z : ℕ) → 0 < own + x → 0 < own + y → (0 < x → 0 < y → 0 < z) → 0 < own + z
      by_own zero x y z a b ih = omega (arith, ih (omega arith) (omega arith))
      by_own (suc own) x y z a b ih = omega arith

  tops-more : (k : ℕ → Bool) (f : Forest C) (l : ℕ) → times (tops (pruned k f)) l ≤ times (tops f) l
  tops-more k Nil l = omega arith
  tops-more k (Tree m c ks rest) l = elim (true_or_false (k m)) [
    | inl e ↦ rw e (omega (arith, tops-more k rest l))
    | inr e ↦ rw e (omega (arith, tops-more k rest l))
  ]

  -- a root that is left was one, and isn't pruned
  pub tops_detached : (k : ℕ → Bool) (f : Forest C) (l : ℕ) → 0 < times (tops (pruned k f)) l → (0 < times (tops f) l) × (k l ≡ false)
  tops_detached k f l h = (omega (arith, h, tops-more k f l), out f h)
    where
      out : (g : Forest C) → 0 < times (tops (pruned k g)) l → k l ≡ false
      out Nil t = absurd (omega (arith, t))
      out (Tree m c ks rest) t = elim (true_or_false (k m)) [
        | inl e ↦ (let t' = rw e at t in out rest t')
        | inr e ↦ (let t' = rw e at t in elim (eqb_tells m l) [
          | inl (_, same) ↦ ap k (sym same) ∙ e
          | inr (u, _) ↦ (let t'' = rw u at t' in out rest (omega (arith, t'')))
        ])
      ]

  -- and one that isn't pruned stays
  pub tops_stay : (k : ℕ → Bool) (f : Forest C) (l : ℕ) → k l ≡ false → times (tops (pruned k f)) l ≡ times (tops f) l
  tops_stay k Nil l off = refl
  tops_stay k (Tree m c ks rest) l off = elim (true_or_false (k m)) [
    | inl e ↦ rw e (elim (eqb_tells m l) [
      | inl (_, same) ↦ absurd (true≢false (sym e ∙ (ap k same ∙ off)))
      | inr (u, _) ↦ rw u (omega (arith, tops_stay k rest l off))
    ])
    | inr e ↦ rw e (omega (arith, tops_stay k rest l off))
  ]

  -- a root has no parent, and what has no parent has none among fewer trees
  pub top_loose : (f : Forest C) (l : ℕ) → IsDistinct f → 0 < times (tops f) l → parent_of f l ≡ None
  top_loose f l once top =
      let t = top_stands None f l top in
      ap (option_and_then (λ (s : Seen C). s.parent)) (seek_Stands None f l t.0 (once l) t.1) ∙ t.2

  pub loose_detached : (k : ℕ → Bool) (f : Forest C) (l : ℕ) → IsDistinct f → parent_of f l ≡ None → parent_of (pruned k f) l ≡ None
  loose_detached k f l once loose = by_count (count_of (pruned k f) l) refl
    where
      by_count : (n : ℕ) → count_of (pruned k f) l ≡ n → parent_of (pruned k f) l ≡ None
      by_count zero e = ap (option_and_then (λ (s : Seen C). s.parent)) (seek_absent None (pruned k f) l e)
      by_count (suc n) e = parent_of-pruned k f l once (omega (arith, e)) ∙ loose

-- ---- the document

first_detached : (k : ℕ → Bool) (c : Content) (ks rest : Forest Content) → k 0 ≡ false → pruned k (Tree 0 c ks rest) ≡ Tree 0 c ks (pruned k rest)
first_detached k c ks rest e = rw e refl

pub model_forest : (f : Forest Content) → IsForest f → (next : ℕ) → ((l : ℕ) → 0 < count_of f l → l < next) → IsModelForest f next
model_forest f is next below = record {
  distinct = is.distinct;
  rising = is.rising;
  below = below;
  document = is.document;
  root = is.root;
  nodes = is.nodes;
}

-- labels of a forest are bounded by a total of theirs
module _ (f : Forest Content) (next : ℕ) (is : IsModelForest f next) (k : ℕ → Bool) (keeps : k 0 ≡ false) where
  pub document-pruned : tree_of (pruned k f) 0 ≡ tree_of f 0
  document-pruned = let d = document_shape f next is in subst (λ g. tree_of (pruned k g) 0 ≡ tree_of g 0) (sym d.3) (rw keeps refl)

  pub document_here : 0 < count_of (pruned k f) 0
  document_here = let d = document_shape f next is in subst (λ g. 0 < count_of (pruned k g) 0) (sym d.3) (rw keeps (omega arith))

  -- what is in the document is left
  pub inside_detached : (l : ℕ) → IsWithin f 0 l → 0 < count_of (pruned k f) l
  inside_detached l h = let d = document_shape f next is in subst (λ g. IsWithin g 0 l → 0 < count_of (pruned k g) l) (sym d.3) (λ t. rw keeps (omega (arith, t))) h

  pub length_of-pruned : (l : ℕ) → IsWithin f 0 l → length_of (pruned k f) l ≡ length_of f l
  length_of-pruned l h = ap (λ (o : Option (Seen Content)). option_map_or (λ c. length_in c (option_map_or (λ s. s.children) o List.[])) (option_map (λ s. s.content) o) 0) (seek-pruned k None f l is.distinct (inside_detached l h))

  leaves-pruned : Leaves f (pruned k f)
  leaves-pruned x h = record {
    inside = rw document-pruned h.inside;
    fits = omega (arith, h.fits, length_of-pruned x.label h.inside);
  }

  leaves-whole : Leaves (pruned k f) f
  leaves-whole x h =
      let inside : IsWithin f 0 x.label = rw document-pruned at h.inside in
      record { inside = inside; fits = omega (arith, h.fits, length_of-pruned x.label inside) }

  pub placed-pruned : (points : LivePoints) → IsPlaced f points → IsPlaced (pruned k f) points
  placed-pruned points h = points_left f (pruned k f) leaves-pruned points h

  pub placed-whole : (points : LivePoints) → IsPlaced (pruned k f) points → IsPlaced f points
  placed-whole points h = points_left (pruned k f) f leaves-whole points h

  pub node_count-pruned : node_count (pruned k f) ≡ node_count f
  node_count-pruned = rw document-pruned refl

  pub char_count-pruned : char_count (pruned k f) ≡ char_count f
  char_count-pruned = rw document-pruned refl

  pub page_depth-pruned : page_depth (pruned k f) ≡ page_depth f
  page_depth-pruned = ap (λ (t : Forest Content). levels (kids_in t)) document-pruned

  pub counted-pruned : (counts : Counts) → IsCounted f counts → IsCounted (pruned k f) counts
  counted-pruned counts h = record { nodes = h.nodes ∙ sym node_count-pruned; chars = h.chars ∙ sym char_count-pruned; depth = omega (arith, h.depth, page_depth-pruned) }

-- outside commands every loose tree is hidden
pub seen_at_rest : (f : Forest Content) (next : ℕ) → IsModelForest f next → pruned (is_hidden f next) f ≡ tree_of f 0
seen_at_rest f next is =
    pruned-same (is_hidden f next) (nat_lt 0) f same ∙ alone
  where
    by_zero : (l : ℕ) → l < next → 0 < times (tops f) l → is_hidden f next l ≡ nat_lt 0 l
    by_zero zero low top = refl
    by_zero (suc l) low top = is_hidden_from f next (suc l) (record { inner = omega arith; old = low; root = top }) ∙ sym (true_lt 0 (suc l) (omega arith))

    same : (l : ℕ) → 0 < times (tops f) l → is_hidden f next l ≡ nat_lt 0 l
    same l top = by_zero l (is.below l (omega (arith, top, times-tops f l))) top

    none_detached : (low : ℕ) (g : Forest Content) → 0 < low → RisesFrom low g → pruned (nat_lt 0) g ≡ Nil
    none_detached low Nil inner rises = refl
    none_detached low (Tree m c ks rest) inner rises =
        let t : nat_lt 0 m ≡ true = true_lt 0 m (let r = rises.0 in omega arith) in
        rw t (none_detached (m + 1) rest (omega arith) rises.1)

    alone : pruned (nat_lt 0) f ≡ tree_of f 0
    alone =
        let d = document_shape f next is in
        let rises : RisesFrom 0 (Tree 0 d.0 d.1 d.2) = subst (RisesFrom 0) d.3 is.rising in
        subst (λ g. pruned (nat_lt 0) g ≡ tree_of g 0) (sym d.3) (ap (Tree 0 d.0 d.1) (none_detached 1 d.2 (omega arith) rises.1))
