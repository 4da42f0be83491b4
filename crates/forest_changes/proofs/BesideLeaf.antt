-- Changes of a forest with one more leaf, whose label is above all others.
use Rattle.std.proofs.Common.{◌≡◌, ℕ, zero, suc, ◌<◌, true, false, cond, length, Option, Some, None, IfSome, unwrap_or, refl, sym, ap, subst, ◌∙◌, inl, inr, arith, eqb, nat_lt}
use Rattle.std.proofs.lemmas.Bool.Decides.{eqb_tells, nat_tests}
use Rattle.std.specs.Option.{option_map_or, option_and_then}
use Rattle.dom_model.specs.declared.Content.{Content}
use Rattle.dom_model.specs.Contents.{may_have_children, has_chars, is_element, chars_in, chars_of, with_chars, with_attributes}
use Rattle.dom_model.specs.Forest.{Forest, join, with_leaf, count_of, content_of, parent_of, tree_of, without, put_under, put_rising, link, unlink, CanPut}
use Rattle.dom_model.specs.Forest.Forest.{Nil, Tree}
use Rattle.dom_model.specs.Revised.{revised}
use Rattle.dom_model.specs.ArenaState.{CanLink}
use Rattle.dom_model.proofs.Totals.{total-unlink}
use Rattle.dom_model.proofs.Stands.{true_or_false, times-tops}
use Rattle.dom_model.proofs.Rising.{RisesFrom-with_leaf}
use Rattle.dom_model.proofs.Kept.{content_of-with_leaf_other}
use Rattle.dom_model.proofs.Links.{total-with_leaf, parent_of-with_leaf, parent_count, tree_is, total-link}
use Rattle.dom_model.proofs.NodesKept.{nodes-with_leaf}
use Rattle.dom_model.proofs.Revising.{total-revised}
use Rattle.forest_changes.specs.Change.{Change, Remove, Insert, Move, SetText, Splice, SetAttributes, IsForest, Fits, spliced_at, applied}
use Rattle.forest_changes.specs.Leaves.{IsBelow, IsMade, Beside}
use Rattle.forest_changes.proofs.Contents.{stands}
use Rattle.forest_changes.proofs.Splices.{HasPart-same, spliced_at-same, part_chars, words_short}
use Rattle.forest_changes.proofs.Twice.{given_parent, IsForest-unlink, IsForest-link, IsForest-rewritten, IsForest-redressed}

other : (l n : ℕ) → n < l → eqb l n ≡ false
other l n lt = grind (arith, nat_tests)

module _ {C : Type 0} (l : ℕ) (c : C) where
  without-with_leaf : (f : Forest C) (n : ℕ) → n < l → without (with_leaf f l c) n ≡ with_leaf (without f n) l c
  without-with_leaf Nil n lt = rw (other l n lt) refl
  without-with_leaf (Tree m d ks rest) n lt =
      elim (eqb_tells m n) [
        | inl (e, _) ↦ rw e refl
        | inr (e, _) ↦ rw e (ap (Tree m d (without ks n)) (without-with_leaf rest n lt))
      ]

  pub tree_of-with_leaf : (f : Forest C) (n : ℕ) → n < l → tree_of (with_leaf f l c) n ≡ tree_of f n
  tree_of-with_leaf Nil n lt = rw (other l n lt) refl
  tree_of-with_leaf (Tree m d ks rest) n lt =
      elim (eqb_tells m n) [
        | inl (e, _) ↦ rw e refl
        | inr (e, _) ↦ rw e (ap (join (tree_of ks n)) (tree_of-with_leaf rest n lt))
      ]

  put_rising-with_leaf : (f : Forest C) (n : ℕ) (d : C) (js : Forest C) → n < l → put_rising (with_leaf f l c) n (Tree n d js Nil) ≡ with_leaf (put_rising f n (Tree n d js Nil)) l c
  put_rising-with_leaf Nil n d js lt = (let e : nat_lt n l ≡ true = grind (arith, nat_tests) in rw e refl)
  put_rising-with_leaf (Tree m e ks rest) n d js lt =
      elim (true_or_false (nat_lt n m)) [
        | inl t ↦ rw t refl
        | inr t ↦ rw t (ap (Tree m e ks) (put_rising-with_leaf rest n d js lt))
      ]

  put_under-with_leaf : (f : Forest C) (p : ℕ) (b : Option ℕ) (t : Forest C) → p < l → put_under (with_leaf f l c) p b t ≡ with_leaf (put_under f p b t) l c
  put_under-with_leaf Nil p b t lt = rw (other l p lt) refl
  put_under-with_leaf (Tree m d ks rest) p b t lt =
      elim (eqb_tells m p) [
        | inl (e, _) ↦ rw e refl
        | inr (e, _) ↦ rw e (ap (Tree m d (put_under ks p b t)) (put_under-with_leaf rest p b t lt))
      ]

  revised-with_leaf : (f : Forest C) (n : ℕ) (g : C → C) → n < l → revised (with_leaf f l c) n g ≡ with_leaf (revised f n g) l c
  revised-with_leaf Nil n g lt = (let e : eqb n l ≡ false = apart n l lt in rw e refl)
    where
      apart : (a b : ℕ) → a < b → eqb a b ≡ false
      apart a b h = grind (arith, nat_tests)
  revised-with_leaf (Tree m e ks rest) n g lt = ap (Tree m (cond (eqb n m) (g e) e) (revised ks n g)) (revised-with_leaf rest n g lt)

  unlink-with_leaf : (f : Forest C) (n : ℕ) → count_of f n ≡ 1 → n < l → unlink (with_leaf f l c) n ≡ with_leaf (unlink f n) l c
  unlink-with_leaf f n one lt =
      let t = tree_is f n one in
      rw (without-with_leaf f n lt, tree_of-with_leaf f n lt, t.2) (put_rising-with_leaf (without f n) n t.0 t.1 lt)

  link-with_leaf : (f : Forest C) (p : ℕ) (b : Option ℕ) (n : ℕ) → n < l → p < l → link (with_leaf f l c) p b n ≡ with_leaf (link f p b n) l c
  link-with_leaf f p b n lt ltp =
      rw (without-with_leaf f n lt, tree_of-with_leaf f n lt) (put_under-with_leaf (without f n) p b (tree_of f n) ltp)

module _ (l : ℕ) (c : Content) where
  pub fresh : (f : Forest Content) → IsBelow f l → count_of f l ≡ 0
  fresh f b = by_count (count_of f l) refl
    where
      by_count : (k : ℕ) → count_of f l ≡ k → count_of f l ≡ 0
      by_count zero e = e
      by_count (suc k) e = absurd (let lt = b.below l (omega (arith, e)) in omega (arith, lt))

  pub IsForest-with_leaf : (f : Forest Content) → IsForest f → IsBelow f l → IsMade c → IsForest (with_leaf f l c)
  IsForest-with_leaf f ok b made =
      let none = fresh f b in
      record {
        distinct = λ j. (let t = total-with_leaf f l c none (λ m _. cond (eqb m j) 1 0) in elim (eqb_tells l j) [
          | inl (e, same) ↦ (let u = rw e at t in let z : count_of f j ≡ 0 = subst (λ i. count_of f i ≡ 0) same none in omega (arith, u, z))
          | inr (e, _) ↦ (let u = rw e at t in omega (arith, u, ok.distinct j))
        ]);
        rising = RisesFrom-with_leaf f 0 l c ok.rising (omega arith) (λ j top. b.below j (omega (arith, top, times-tops f j)));
        document = omega (arith, ok.document, total-with_leaf f l c none (λ m _. cond (eqb m 0) 1 0));
        root = parent_of-with_leaf f l c none 0 ∙ ok.root;
        nodes = nodes-with_leaf f l c none (record { document = (λ e. absurd (made.plain e), λ e. absurd (let low = b.below 0 ok.document in omega (arith, low, e))); leaf = λ _. refl; short = made.short; names = made.names }) ok.nodes;
      }

  CanPut-with_leaf : (f : Forest Content) (p : ℕ) (b : Option ℕ) (n : ℕ) → IsBelow f l → CanPut f p b n → CanPut (with_leaf f l c) p b n
  CanPut-with_leaf f p b n low can =
      let none = fresh f low in
      record {
        parent = omega (arith, can.parent, total-with_leaf f l c none (λ m _. cond (eqb m p) 1 0));
        node = omega (arith, can.node, total-with_leaf f l c none (λ m _. cond (eqb m n) 1 0));
        inner = can.inner;
        loose = parent_of-with_leaf f l c none n ∙ can.loose;
        apart = rw (tree_of-with_leaf l c f n (low.below n can.node)) can.apart;
        before = by_case none b can.before;
      }
    where
      by_case : count_of f l ≡ 0 → (o : Option ℕ) → IfSome o (λ m. parent_of f m ≡ Some p) → IfSome o (λ m. parent_of (with_leaf f l c) m ≡ Some p)
      by_case none None h = tt
      by_case none (Some m) h = parent_of-with_leaf f l c none m ∙ h

  -- what stands at a lower label is the same
  same_content : (f : Forest Content) (n : ℕ) → IsBelow f l → n < l → content_of (with_leaf f l c) n ≡ content_of f n
  same_content f n low lt = content_of-with_leaf_other f l c n (fresh f low) (λ e. omega (arith, e, lt))

  CanLink-with_leaf : (f : Forest Content) (p : ℕ) (b : Option ℕ) (n : ℕ) → IsBelow f l → CanLink f p b n → CanLink (with_leaf f l c) p b n
  CanLink-with_leaf f p b n low can = record {
    place = CanPut-with_leaf f p b n low can.place;
    parent = ap (λ o. option_map_or may_have_children o false) (same_content f p low (low.below p can.place.parent)) ∙ can.parent;
  }

  -- a change keeps every label below l
  still_below : (f g : Forest Content) → IsBelow f l → ((m : ℕ) → count_of g m ≡ count_of f m) → IsBelow g l
  still_below f g low same = record { below = λ m k. low.below m (omega (arith, k, same m)) }

  pub beside : (x : Change) (f : Forest Content) → IsBelow f l → IsMade c → Fits x f → Beside l c x f
  unfolding applied
  beside (Remove n) f low made h =
      let p = unwrap_or (parent_of f n) 0 in
      let child = given_parent f n h.here in
      let here = parent_count f n p h.forest.distinct child in
      record {
        fits = record { forest = IsForest-with_leaf f h.forest low made; here = rw (parent_of-with_leaf f l c (fresh f low) n) h.here };
        same = unlink-with_leaf l c f n (omega (arith, here.0, h.forest.distinct n)) (low.below n here.0);
        forest = IsForest-unlink f p n h.forest child;
        below = still_below f (unlink f n) low (λ m. total-unlink (λ j _. cond (eqb j m) 1 0) f n);
      }
  beside (Insert n p b) f low made h = record {
    fits = record { forest = IsForest-with_leaf f h.forest low made; here = CanLink-with_leaf f p b n low h.here };
    same = link-with_leaf l c f p b n (low.below n h.here.place.node) (low.below p h.here.place.parent);
    forest = IsForest-link f p b n h.forest h.here;
    below = still_below f (link f p b n) low (λ m. total-link f p b n h.forest.distinct h.here.place (λ j _. cond (eqb j m) 1 0));
  }
  beside (Move n p b) f low made h =
      let q = unwrap_or (parent_of f n) 0 in
      let child = given_parent f n h.here.0 in
      let here = parent_count f n q h.forest.distinct child in
      let g = IsForest-unlink f q n h.forest child in
      let lowg : IsBelow (unlink f n) l = still_below f (unlink f n) low (λ m. total-unlink (λ j _. cond (eqb j m) 1 0) f n) in
      let e = unlink-with_leaf l c f n (omega (arith, here.0, h.forest.distinct n)) (low.below n here.0) in
      record {
        fits = record { forest = IsForest-with_leaf f h.forest low made; here = (rw (parent_of-with_leaf f l c (fresh f low) n) h.here.0, subst (λ (w : Forest Content). CanLink w p b n) (sym e) (CanLink-with_leaf (unlink f n) p b n lowg h.here.1)) };
        same = rw e (link-with_leaf l c (unlink f n) p b n (lowg.below n h.here.1.place.node) (lowg.below p h.here.1.place.parent));
        forest = IsForest-link (unlink f n) p b n g h.here.1;
        below = still_below (unlink f n) (link (unlink f n) p b n) lowg (λ m. total-link (unlink f n) p b n g.distinct h.here.1.place (λ j _. cond (eqb j m) 1 0));
      }
  beside (SetText n words) f low made h =
      let lt = low.below n (stands f n has_chars h.here.0) in
      record {
        fits = record { forest = IsForest-with_leaf f h.forest low made; here = (ap (λ o. option_map_or has_chars o false) (same_content f n low lt) ∙ h.here.0, h.here.1) };
        same = revised-with_leaf l c f n (with_chars words) lt;
        forest = IsForest-rewritten f n words h.here.1 h.forest;
        below = still_below f (revised f n (with_chars words)) low (λ m. total-revised n (with_chars words) (λ j. cond (eqb j m) 1 0) f);
      }
  beside (Splice n at rest taken put) f low made h =
      let lt = low.below n (stands f n has_chars (part_chars f n at rest taken put h.here)) in
      let e : chars_of (with_leaf f l c) n ≡ chars_of f n = ap (option_and_then chars_in) (same_content f n low lt) in
      let words = spliced_at f n at (length taken) put in
      record {
        fits = record { forest = IsForest-with_leaf f h.forest low made; here = HasPart-same f (with_leaf f l c) n at rest taken put e h.here };
        same = ap (λ chars. revised (with_leaf f l c) n (with_chars chars)) (spliced_at-same f (with_leaf f l c) n at (length taken) put e) ∙ revised-with_leaf l c f n (with_chars words) lt;
        forest = IsForest-rewritten f n words (words_short f n at rest taken put h.here) h.forest;
        below = still_below f (revised f n (with_chars words)) low (λ m. total-revised n (with_chars words) (λ j. cond (eqb j m) 1 0) f);
      }
  beside (SetAttributes n list) f low made h =
      let lt = low.below n (stands f n is_element h.here.0) in
      record {
        fits = record { forest = IsForest-with_leaf f h.forest low made; here = (ap (λ o. option_map_or is_element o false) (same_content f n low lt) ∙ h.here.0, h.here.1) };
        same = revised-with_leaf l c f n (with_attributes list) lt;
        forest = IsForest-redressed f n list h.here.1 h.forest;
        below = still_below f (revised f n (with_attributes list)) low (λ m. total-revised n (with_attributes list) (λ j. cond (eqb j m) 1 0) f);
      }
