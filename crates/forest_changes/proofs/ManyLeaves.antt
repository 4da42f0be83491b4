-- Changes of a forest with more leaves, whose labels are above all others.
use Rattle.std.proofs.Common.{◌≡◌, ℕ, suc, ◌+◌, ◌<◌, ◌≤◌, Bool, true, false, cond, List, [], ◌∷◌, ◌++◌, length, nat_le, refl, sym, ap, subst, ◌∙◌, inl, inr, arith, eqb}
use Rattle.std.proofs.lemmas.Bool.Decides.{eqb_tells, nat_tests}
use Rattle.dom_model.specs.declared.Content.{Content}
use Rattle.dom_model.specs.Forest.{Forest, with_leaf, count_of, parent_of}
use Rattle.dom_model.specs.Forest.Forest.{Nil, Tree}
use Rattle.dom_model.specs.Pruned.{pruned}
use Rattle.dom_model.proofs.Pruning.{count_of-pruned}
use Rattle.dom_model.proofs.Stands.{true_or_false}
use Rattle.dom_model.proofs.Links.{total-with_leaf, parent_of-with_leaf, parent_count, eqb_refl_true}
use Rattle.undo_log.specs.Turning.{back, forth, FitsBack, FitsForth}
use Rattle.forest_changes.specs.Change.{Change, IsForest, Fits, applied}
use Rattle.forest_changes.specs.Down.{Prunes}
use Rattle.forest_changes.specs.Leaves.{IsBelow, EachMade, with_leaves, BackBeside, ForthBeside, HasMade}
use Rattle.forest_changes.proofs.BesideLeaf.{fresh, IsForest-with_leaf, beside}
use Rattle.forest_changes.proofs.Twice.{count_of-applied}

one_above : (l : ℕ) (c : Content) (f : Forest Content) → IsBelow f l → IsBelow (with_leaf f l c) (l + 1)
one_above l c f low = record {
  below = λ m here. (let t = total-with_leaf f l c (fresh l c f low) (λ j _. cond (eqb j m) 1 0) in elim (eqb_tells l m) [
    | inl (_, is) ↦ omega (arith, is)
    | inr (e, _) ↦ (let u = rw e at t in let lt = low.below m (omega (arith, u, here)) in omega (arith, lt))
  ]);
}

-- ---- one change beside many leaves

record BesideMany (l : ℕ) (cs : List Content) (x : Change) (f : Forest Content) : Type 0 where
  fits : Fits x (with_leaves f l cs)
  same : applied x (with_leaves f l cs) ≡ with_leaves (applied x f) l cs

beside_many : (l : ℕ) (cs : List Content) (x : Change) (f : Forest Content) → IsBelow f l → EachMade cs → Fits x f → BesideMany l cs x f
beside_many l [] x f low made h = record { fits = h; same = refl }
beside_many l (c ∷ cs) x f low made h =
    let one = beside l c x f low made.0 h in
    let r = beside_many (l + 1) cs x (with_leaf f l c) (one_above l c f low) made.1 one.fits in
    record { fits = r.fits; same = r.same ∙ ap (λ g. with_leaves g (l + 1) cs) one.same }

still_below : (l : ℕ) (x : Change) (f : Forest Content) → Fits x f → IsBelow f l → IsBelow (applied x f) l
still_below l x f h low = record { below = λ m here. low.below m (omega (arith, here, count_of-applied x f h m)) }

-- ---- lists of changes

module _ (l : ℕ) (cs : List Content) where
  pub back_beside : (xs : List Change) (f : Forest Content) → IsBelow f l → EachMade cs → FitsBack applied Fits xs f → BackBeside l cs xs f
  unfolding back FitsBack
  back_beside [] f low made h = record { fits = tt; same = refl; below = low }
  back_beside (x ∷ xs) f low made h =
      let r = back_beside xs f low made h.0 in
      let one = beside_many l cs x (back applied xs f) r.below made h.1 in
      record {
        fits = (r.fits, subst (λ (g : Forest Content). Fits x g) (sym r.same) one.fits);
        same = ap (applied x) r.same ∙ one.same;
        below = still_below l x (back applied xs f) h.1 r.below;
      }

  pub forth_beside : (xs : List Change) (f : Forest Content) → IsBelow f l → EachMade cs → FitsForth applied Fits xs f → ForthBeside l cs xs f
  unfolding forth FitsForth
  forth_beside [] f low made h = record { fits = tt; same = refl; below = low }
  forth_beside (x ∷ xs) f low made h =
      let one = beside_many l cs x f low made h.0 in
      let r = forth_beside xs (applied x f) (still_below l x f h.0 low) made h.1 in
      record {
        fits = (one.fits, subst (λ (g : Forest Content). FitsForth applied Fits xs g) (sym one.same) r.fits);
        same = ap (forth applied xs) one.same ∙ r.same;
        below = r.below;
      }

-- ---- the leaves given up

is_high : (l m : ℕ) → l ≤ m → nat_le l m ≡ true
is_high l m le = grind (arith, nat_tests)

is_low : (l m : ℕ) → m < l → nat_le l m ≡ false
is_low l m lt = grind (arith, nat_tests)

pruned_leaf : (l m : ℕ) (c : Content) (f : Forest Content) → l ≤ m → pruned (nat_le l) (with_leaf f m c) ≡ pruned (nat_le l) f
pruned_leaf l m c Nil le = rw (is_high l m le) refl
pruned_leaf l m c (Tree j d ks rest) le = elim (true_or_false (nat_le l j)) [
  | inl t ↦ rw t (pruned_leaf l m c rest le)
  | inr t ↦ rw t (ap (Tree j d ks) (pruned_leaf l m c rest le))
]

pruned_none : (l : ℕ) (f : Forest Content) → ((m : ℕ) → 0 < count_of f m → m < l) → pruned (nat_le l) f ≡ f
pruned_none l Nil low = refl
pruned_none l (Tree j d ks rest) low =
    let own : j < l = low j (let t = eqb_refl_true j in rw t (omega arith)) in
    rw (is_low l j own) (ap (Tree j d ks) (pruned_none l rest (λ m here. low m (omega (arith, here)))))

pruned_leaves : (l m : ℕ) (cs : List Content) (f : Forest Content) → l ≤ m → pruned (nat_le l) (with_leaves f m cs) ≡ pruned (nat_le l) f
pruned_leaves l m [] f le = refl
pruned_leaves l m (c ∷ cs) f le = pruned_leaves l (m + 1) cs (with_leaf f m c) (omega (arith, le)) ∙ pruned_leaf l m c f le

parents : (l : ℕ) (cs : List Content) (f : Forest Content) → IsBelow f l → (j : ℕ) → parent_of (with_leaves f l cs) j ≡ parent_of f j
parents l [] f low j = refl
parents l (c ∷ cs) f low j = parents (l + 1) cs (with_leaf f l c) (one_above l c f low) j ∙ parent_of-with_leaf f l c (fresh l c f low) j

forest_made : (l : ℕ) (cs : List Content) (f : Forest Content) → IsForest f → IsBelow f l → EachMade cs → IsForest (with_leaves f l cs)
forest_made l [] f ok low made = ok
forest_made l (c ∷ cs) f ok low made = forest_made (l + 1) cs (with_leaf f l c) (IsForest-with_leaf l c f ok low made.0) (one_above l c f low) made.1

below_made : (l : ℕ) (cs : List Content) (f : Forest Content) → IsBelow f l → IsBelow (with_leaves f l cs) (l + length cs)
below_made l [] f low = record { below = λ m here. (let lt = low.below m here in omega (arith, lt)) }
below_made l (c ∷ cs) f low = (let r = below_made (l + 1) cs (with_leaf f l c) (one_above l c f low) in record { below = λ m here. (let lt = r.below m here in omega (arith, lt)) })

one_more : (l : ℕ) (cs : List Content) (f : Forest Content) (c : Content) → with_leaf (with_leaves f l cs) (l + length cs) c ≡ with_leaves f l (cs ++ c ∷ [])
one_more l [] f c = ap (λ m. with_leaf f m c) (same_place l)
  where
    same_place : (m : ℕ) → m + 0 ≡ m
    same_place m = omega arith
one_more l (d ∷ cs) f c = ap (λ m. with_leaf (with_leaves (with_leaf f l d) (l + 1) cs) m c) (same_place l (length cs)) ∙ one_more (l + 1) cs (with_leaf f l d) c
  where
    same_place : (m n : ℕ) → m + suc n ≡ m + 1 + n
    same_place m n = omega arith

pub has_made : (l : ℕ) (cs : List Content) (f : Forest Content) → IsForest f → IsBelow f l → EachMade cs → HasMade l cs f
has_made l cs f ok low made = record {
  forest = forest_made l cs f ok low made;
  below = below_made l cs f low;
  whole = record {
    same = λ j p h. (
        let here = parent_count f j p ok.distinct (sym (parents l cs f low j) ∙ h) in
        is_low l j (low.below j here.0) ∙ sym (is_low l p (low.below p here.1)));
  };
  without = pruned_leaves l l cs f (omega arith) ∙ pruned_none l f low.below;
  one_more = one_more l cs f;
}

-- ---- where other trees are pruned

module _ (k : ℕ → Bool) (l : ℕ) (c : Content) (out : k l ≡ false) where
  pub pruned-with_leaf : (f : Forest Content) → pruned k (with_leaf f l c) ≡ with_leaf (pruned k f) l c
  pruned-with_leaf Nil = rw out refl
  pruned-with_leaf (Tree j d ks rest) = elim (true_or_false (k j)) [
    | inl t ↦ rw t (pruned-with_leaf rest)
    | inr t ↦ rw t (ap (Tree j d ks) (pruned-with_leaf rest))
  ]

  pub Prunes-with_leaf : (f : Forest Content) → IsBelow f l → Prunes k f → Prunes k (with_leaf f l c)
  Prunes-with_leaf f low prunes = record {
    document = prunes.document;
    out = λ m here. elim (eqb_tells l m) [
      | inl (_, is) ↦ ap k (sym is) ∙ out
      | inr (e, _) ↦ (
          let none : count_of (pruned k f) l ≡ 0 = (let all = count_of-pruned k f l in let gone = fresh l c f low in omega (arith, all, gone)) in
          let t = total-with_leaf (pruned k f) l c none (λ j _. cond (eqb j m) 1 0) in
          let u = rw e at t in
          let here' = subst (λ (g : Forest Content). 0 < count_of g m) (pruned-with_leaf f) here in
          prunes.out m (omega (arith, u, here')))
    ];
  }
