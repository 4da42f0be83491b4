-- Changes of what is left of a forest without some of its trees.
use Rattle.std.proofs.Common.{◌≡◌, ℕ, ◌+◌, ◌<◌, Bool, false, cond, Option, Some, None, IfSome, refl, sym, ap, ◌∙◌, inl, inr, arith, eqb, nat_lt}
use Rattle.std.proofs.lemmas.Bool.Decides.{eqb_tells, nat_tests}
use Rattle.std.specs.Option.{option_map}
use Rattle.dom_model.specs.declared.Content.{Content}
use Rattle.dom_model.specs.Forest.{Forest, Seen, count_of, RisesFrom, parent_of, content_of, tree_of, without, put_under, put_rising, link, unlink, CanPut}
use Rattle.dom_model.specs.Forest.Forest.{Nil, Tree}
use Rattle.dom_model.specs.Revised.{revised}
use Rattle.dom_model.specs.Pruned.{pruned}
use Rattle.dom_model.proofs.Stands.{true_or_false}
use Rattle.dom_model.proofs.Rising.{RisesFrom-weaken, RisesFrom-without}
use Rattle.dom_model.proofs.Links.{tree_is, parent_count}
use Rattle.dom_model.proofs.Pruning.{count_of-pruned, IsDistinct-pruned, RisesFrom-pruned, tree_of-pruned, seek-pruned, parent_of-pruned}
use Rattle.forest_changes.specs.Change.{IsForest}
use Rattle.forest_changes.proofs.Places.{put_rising_front}

module _ {C : Type 0} (k : ℕ → Bool) where
  pub pruned-without : (f : Forest C) (n : ℕ) → k n ≡ false → pruned k (without f n) ≡ without (pruned k f) n
  pruned-without Nil n seen = refl
  pruned-without (Tree m c ks rest) n seen =
      elim (eqb_tells m n) [
        | inl (e, same) ↦ (let t : k m ≡ false = ap k same ∙ seen in rw e (rw t (rw e refl)))
        | inr (e, _) ↦ rw e (elim (true_or_false (k m)) [
          | inl t ↦ rw t (pruned-without rest n seen)
          | inr t ↦ rw t (rw e (ap (Tree m c (without ks n)) (pruned-without rest n seen)))
        ])
      ]

  pub pruned-put_rising : (f : Forest C) (low n : ℕ) (c : C) (js : Forest C) → RisesFrom low f → k n ≡ false → pruned k (put_rising f n (Tree n c js Nil)) ≡ put_rising (pruned k f) n (Tree n c js Nil)
  pruned-put_rising Nil low n c js rises seen = rw seen refl
  pruned-put_rising (Tree m d ks rest) low n c js rises seen =
      elim (true_or_false (nat_lt n m)) [
        | inl e ↦ rw e (rw seen (elim (true_or_false (k m)) [
          | inl t ↦ rw t (sym (put_rising_front (pruned k rest) n (Tree n c js Nil) (RisesFrom-weaken (pruned k rest) (m + 1) (n + 1) (RisesFrom-pruned k rest (m + 1) rises.1) (grind (arith, nat_tests)))))
          | inr t ↦ rw t (rw e refl)
        ]))
        | inr e ↦ rw e (elim (true_or_false (k m)) [
          | inl t ↦ rw t (pruned-put_rising rest (m + 1) n c js rises.1 seen)
          | inr t ↦ rw t (rw e (ap (Tree m d ks) (pruned-put_rising rest (m + 1) n c js rises.1 seen)))
        ])
      ]

  pub pruned-put_under : (f : Forest C) (p : ℕ) (b : Option ℕ) (t : Forest C) → k p ≡ false → pruned k (put_under f p b t) ≡ put_under (pruned k f) p b t
  pruned-put_under Nil p b t seen = refl
  pruned-put_under (Tree m c ks rest) p b t seen =
      elim (eqb_tells m p) [
        | inl (e, same) ↦ (let u : k m ≡ false = ap k same ∙ seen in rw e (rw u (rw e refl)))
        | inr (e, _) ↦ rw e (elim (true_or_false (k m)) [
          | inl u ↦ rw u (pruned-put_under rest p b t seen)
          | inr u ↦ rw u (rw e (ap (Tree m c (put_under ks p b t)) (pruned-put_under rest p b t seen)))
        ])
      ]

  -- contents
  pub pruned-revised : (f : Forest C) (n : ℕ) (g : C → C) → pruned k (revised f n g) ≡ revised (pruned k f) n g
  pruned-revised Nil n g = refl
  pruned-revised (Tree m c ks rest) n g = elim (true_or_false (k m)) [
    | inl t ↦ rw t (pruned-revised rest n g)
    | inr t ↦ rw t (ap (Tree m (cond (eqb n m) (g c) c) (revised ks n g)) (pruned-revised rest n g))
  ]

-- ---- the changes

module _ (k : ℕ → Bool) where
  pub pruned-unlink : (f : Forest Content) (n : ℕ) → IsForest f → 0 < count_of (pruned k f) n → k n ≡ false → pruned k (unlink f n) ≡ unlink (pruned k f) n
  pruned-unlink f n ok here seen =
      let t = tree_is f n (omega (arith, here, count_of-pruned k f n, ok.distinct n)) in
      let e = tree_of-pruned k f n ok.distinct here in
      rw (e, t.2, pruned-put_rising k (without f n) 0 n t.0 t.1 (RisesFrom-without f 0 n ok.rising) seen, pruned-without k f n seen) refl

  pub pruned-link : (f : Forest Content) (p : ℕ) (b : Option ℕ) (n : ℕ) → IsForest f → 0 < count_of (pruned k f) n → k n ≡ false → k p ≡ false → pruned k (link f p b n) ≡ link (pruned k f) p b n
  pruned-link f p b n ok here seen seen_p =
      let e = tree_of-pruned k f n ok.distinct here in
      rw (e, pruned-put_under k (without f n) p b (tree_of f n) seen_p, pruned-without k f n seen) refl

  pub CanPut-pruned : (f : Forest Content) (p : ℕ) (b : Option ℕ) (n : ℕ) → IsForest f → CanPut (pruned k f) p b n → CanPut f p b n
  CanPut-pruned f p b n ok can = record {
    parent = omega (arith, can.parent, count_of-pruned k f p);
    node = omega (arith, can.node, count_of-pruned k f n);
    inner = can.inner;
    loose = sym (parent_of-pruned k f n ok.distinct can.node) ∙ can.loose;
    apart = (let e = tree_of-pruned k f n ok.distinct can.node in rw (← e) can.apart);
    before = by_case b can.before;
  }
    where
      by_case : (o : Option ℕ) → IfSome o (λ m. parent_of (pruned k f) m ≡ Some p) → IfSome o (λ m. parent_of f m ≡ Some p)
      by_case None h = tt
      by_case (Some m) h =
          sym (parent_of-pruned k f m ok.distinct (parent_count (pruned k f) m p (IsDistinct-pruned k f ok.distinct) h).0) ∙ h

  pub content_of-pruned : (f : Forest Content) (l : ℕ) → IsForest f → 0 < count_of (pruned k f) l → content_of (pruned k f) l ≡ content_of f l
  content_of-pruned f l ok here = ap (option_map (λ (s : Seen Content). s.content)) (seek-pruned k None f l ok.distinct here)
