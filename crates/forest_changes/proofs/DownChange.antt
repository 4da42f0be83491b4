-- A change that names only what is left of a forest is the change of what is left.
use Rattle.std.proofs.Common.{◌≡◌, ℕ, ◌+◌, ◌<◌, ◌≤◌, Bool, true, false, cond, length, Option, Some, None, IsSome, IfSome, unwrap_or, refl, sym, ap, subst, ◌∙◌, inl, inr, arith, eqb}
use Rattle.std.proofs.lemmas.Bool.Decides.{eqb_tells}
use Rattle.std.specs.Prelude.{◌==◌}
use Rattle.std.specs.Option.{option_map_or, option_and_then}
use Rattle.dom_model.specs.declared.Content.{Content}
use Rattle.dom_model.specs.Contents.{may_have_children, has_chars, is_element, chars_in, attributes_in, chars_of, with_chars, with_attributes}
use Rattle.dom_model.specs.Forest.{Forest, tops, times, count_of, IsDistinct, parent_of, children_of, next_of, after_in, without, link, unlink}
use Rattle.dom_model.specs.Forest.Forest.{Nil, Tree}
use Rattle.dom_model.specs.Revised.{revised}
use Rattle.dom_model.specs.Pruned.{pruned, IsWhole}
use Rattle.dom_model.specs.ArenaState.{CanLink}
use Rattle.dom_model.proofs.Totals.{total-unlink}
use Rattle.dom_model.proofs.Stands.{true_or_false, parent_stands, times-tops}
use Rattle.dom_model.proofs.Links.{seen, found_count}
pub use Rattle.dom_model.proofs.Links.{parent_count, next_here}
use Rattle.dom_model.proofs.Pruning.{count_of-pruned, IsDistinct-pruned, RisesFrom-pruned, seek-pruned, tree_of-pruned, parent_of-pruned, children_of-pruned, whole_out}
use Rattle.forest_changes.specs.Change.{Change, Remove, Insert, Move, SetText, Splice, SetAttributes, IsForest, Fits, spliced_at, applied, inverse}
use Rattle.forest_changes.specs.Named.{named, listed, Each}
use Rattle.forest_changes.specs.Down.{Prunes, IsLeft, GoesDown}
use Rattle.forest_changes.proofs.Contents.{stands}
use Rattle.forest_changes.proofs.Splices.{HasPart-same, spliced_at-same, part_chars}
use Rattle.dom_model.proofs.DropTree.{without_absent}
use Rattle.forest_changes.proofs.Twice.{given_parent, IsForest-unlink, count_of-applied}
use Rattle.forest_changes.proofs.PrunedChanges.{pruned-unlink, pruned-link, pruned-revised, CanPut-pruned, content_of-pruned}

-- b, if there is one, has the property
pub each_listed : {A : Type 0} (P : A → Type 0) (o : Option A) → Each P (listed o) → IfSome o P
each_listed P None h = tt
each_listed P (Some l) h = h.0

pub listed_each : {A : Type 0} (P : A → Type 0) (o : Option A) → IfSome o P → Each P (listed o)
listed_each P None h = tt
listed_each P (Some l) h = (h, tt)

root_top : (f : Forest Content) (l : ℕ) → IsDistinct f → 0 < count_of f l → parent_of f l ≡ None → 0 < times (tops f) l
root_top f l once here root =
    let s = seen f l once here in
    let own : s.0.parent ≡ None = rw s.2 at root in
    elim (parent_stands None f l s.0 s.1) [ inl (_, h) ↦ h | inr (q, _, up, _, _) ↦ absurd (let e : Some q ≡ None = sym up ∙ own in cc) ]

module _ (k : ℕ → Bool) where
  top_left : (f : Forest Content) (l : ℕ) → k l ≡ false → 0 < times (tops f) l → 0 < count_of (pruned k f) l
  top_left Nil l out top = absurd (omega (arith, top))
  top_left (Tree m c ks rest) l out top =
      elim (eqb_tells m l) [
        | inl (e, same) ↦ (let t : k m ≡ false = ap k same ∙ out in rw (t, e) (omega arith))
        | inr (e, _) ↦ (let top' : 0 < times (tops rest) l = (let u = rw e at top in omega (arith, u)) in
            let ih = top_left rest l out top' in
            elim (true_or_false (k m)) [ inl t ↦ rw t ih | inr t ↦ rw t (omega (arith, ih)) ])
      ]

  pub IsForest-pruned : (f : Forest Content) → k 0 ≡ false → IsForest f → IsForest (pruned k f)
  IsForest-pruned f zero_left ok =
      let here = top_left f 0 zero_left (root_top f 0 ok.distinct ok.document ok.root) in
      record {
        distinct = IsDistinct-pruned k f ok.distinct;
        rising = RisesFrom-pruned k f 0 ok.rising;
        document = here;
        root = parent_of-pruned k f 0 ok.distinct here ∙ ok.root;
        nodes = λ l s e. ok.nodes l s (sym (seek-pruned k None f l ok.distinct (found_count (pruned k f) l s e)) ∙ e);
      }

  -- ---- what is left has the same neighbours

  left_parent : (f : Forest Content) (n p : ℕ) → IsForest f → IsLeft k f n → parent_of f n ≡ Some p → IsLeft k f p
  left_parent f n p ok here up = (parent_count (pruned k f) n p (IsDistinct-pruned k f ok.distinct) (parent_of-pruned k f n ok.distinct here ∙ up)).1

  next_of-pruned : (f : Forest Content) (n p : ℕ) → IsForest f → IsLeft k f n → parent_of f n ≡ Some p → next_of (pruned k f) n ≡ next_of f n
  next_of-pruned f n p ok here up =
      let e : parent_of (pruned k f) n ≡ Some p = parent_of-pruned k f n ok.distinct here ∙ up in
      ap (option_and_then (λ q. after_in (children_of (pruned k f) q) n)) e
      ∙ (ap (λ xs. after_in xs n) (children_of-pruned k f p ok.distinct (left_parent f n p ok here up)) ∙ sym (ap (option_and_then (λ q. after_in (children_of f q) n)) up))

  left_next : (f : Forest Content) (n p : ℕ) → IsForest f → IsLeft k f n → parent_of f n ≡ Some p → IfSome (next_of f n) (IsLeft k f)
  left_next f n p ok here up = subst (λ o. IfSome o (IsLeft k f)) (next_of-pruned f n p ok here up) (next_here (pruned k f) n (IsDistinct-pruned k f ok.distinct))

  -- ---- a change of what is left

  CanLink-down : (f : Forest Content) (p : ℕ) (b : Option ℕ) (n : ℕ) → IsForest f → IsLeft k f n → IsLeft k f p → IfSome b (IsLeft k f) → CanLink f p b n → CanLink (pruned k f) p b n
  CanLink-down f p b n ok hn hp hb can = record {
    place = record {
      parent = hp;
      node = hn;
      inner = can.place.inner;
      loose = parent_of-pruned k f n ok.distinct hn ∙ can.place.loose;
      apart = rw (tree_of-pruned k f n ok.distinct hn) can.place.apart;
      before = by_case b hb can.place.before;
    };
    parent = ap (λ o. option_map_or may_have_children o false) (content_of-pruned k f p ok hp) ∙ can.parent;
  }
    where
      by_case : (o : Option ℕ) → IfSome o (IsLeft k f) → IfSome o (λ m. parent_of f m ≡ Some p) → IfSome o (λ m. parent_of (pruned k f) m ≡ Some p)
      by_case None hs h = tt
      by_case (Some m) hs h = parent_of-pruned k f m ok.distinct hs ∙ h

  -- afterwards the same labels are left, and no others
  after : (x : Change) (f : Forest Content) → Prunes k f → Fits x (pruned k f) → pruned k (applied x f) ≡ applied x (pruned k f) → Prunes k (applied x f) × ((l : ℕ) → count_of (pruned k (applied x f)) l ≡ count_of (pruned k f) l)
  after x f prunes fits same =
      let counts : (l : ℕ) → count_of (pruned k (applied x f)) l ≡ count_of (pruned k f) l = λ l. ap (λ g. count_of g l) same ∙ count_of-applied x (pruned k f) fits l in
      (record { document = prunes.document; out = λ l h. prunes.out l (omega (arith, h, counts l)) }, counts)

  pub down : (x : Change) (f : Forest Content) → Prunes k f → Fits x f → Each (IsLeft k f) (named x) → GoesDown k x f
  unfolding applied inverse
  down (Remove n) f prunes h hs =
      let p = unwrap_or (parent_of f n) 0 in
      let child = given_parent f n h.here in
      let fits : Fits (Remove n) (pruned k f) = record { forest = IsForest-pruned f prunes.document h.forest; here = rw (parent_of-pruned k f n h.forest.distinct hs.0) h.here } in
      let same = pruned-unlink k f n h.forest hs.0 (prunes.out n hs.0) in
      let rest = after (Remove n) f prunes fits same in
      record {
        fits = fits;
        same = same;
        turns = λ i. Insert n (unwrap_or (parent_of-pruned k f n h.forest.distinct hs.0 i) 0) (next_of-pruned f n p h.forest hs.0 child i);
        names = (hs.0, (left_parent f n p h.forest hs.0 child, listed_each (IsLeft k f) (next_of f n) (left_next f n p h.forest hs.0 child)));
        prunes = rest.0;
        stays = rest.1;
      }
  down (Insert n p b) f prunes h hs =
      let fits : Fits (Insert n p b) (pruned k f) = record { forest = IsForest-pruned f prunes.document h.forest; here = CanLink-down f p b n h.forest hs.0 hs.1.0 (each_listed (IsLeft k f) b hs.1.1) h.here } in
      let same = pruned-link k f p b n h.forest hs.0 (prunes.out n hs.0) (prunes.out p hs.1.0) in
      let rest = after (Insert n p b) f prunes fits same in
      record { fits = fits; same = same; turns = refl; names = (hs.0, tt); prunes = rest.0; stays = rest.1 }
  down (Move n p b) f prunes h hs =
      let q = unwrap_or (parent_of f n) 0 in
      let child = given_parent f n h.here.0 in
      let g = IsForest-unlink f q n h.forest child in
      let e = pruned-unlink k f n h.forest hs.0 (prunes.out n hs.0) in
      let here : (l : ℕ) → IsLeft k f l → IsLeft k (unlink f n) l = λ l w. rw e (omega (arith, w, total-unlink (λ m _. cond (eqb m l) 1 0) (pruned k f) n)) in
      let can = CanLink-down (unlink f n) p b n g (here n hs.0) (here p hs.1.0) (each b here (each_listed (IsLeft k f) b hs.1.1)) h.here.1 in
      let fits : Fits (Move n p b) (pruned k f) = record {
        forest = IsForest-pruned f prunes.document h.forest;
        here = (rw (parent_of-pruned k f n h.forest.distinct hs.0) h.here.0, subst (λ (w : Forest Content). CanLink w p b n) e can);
      } in
      let same : pruned k (link (unlink f n) p b n) ≡ link (unlink (pruned k f) n) p b n = pruned-link k (unlink f n) p b n g (here n hs.0) (prunes.out n hs.0) (prunes.out p hs.1.0) ∙ ap (λ w. link w p b n) e in
      let rest = after (Move n p b) f prunes fits same in
      record {
        fits = fits;
        same = same;
        turns = λ i. Move n (unwrap_or (parent_of-pruned k f n h.forest.distinct hs.0 i) 0) (next_of-pruned f n q h.forest hs.0 child i);
        names = (hs.0, (left_parent f n q h.forest hs.0 child, listed_each (IsLeft k f) (next_of f n) (left_next f n q h.forest hs.0 child)));
        prunes = rest.0;
        stays = rest.1;
      }
    where
      each : (o : Option ℕ) → ((l : ℕ) → IsLeft k f l → IsLeft k (unlink f n) l) → IfSome o (IsLeft k f) → IfSome o (IsLeft k (unlink f n))
      each None go w = tt
      each (Some m) go w = go m w
  down (SetText n words) f prunes h hs =
      let c = content_of-pruned k f n h.forest hs.0 in
      let fits : Fits (SetText n words) (pruned k f) = record { forest = IsForest-pruned f prunes.document h.forest; here = (ap (λ o. option_map_or has_chars o false) c ∙ h.here.0, h.here.1) } in
      let same = pruned-revised k f n (with_chars words) in
      let rest = after (SetText n words) f prunes fits same in
      record { fits = fits; same = same; turns = λ i. SetText n (unwrap_or (option_and_then chars_in (c i)) words); names = (hs.0, tt); prunes = rest.0; stays = rest.1 }
  down (Splice n at rest taken put) f prunes h hs =
      let c : chars_of (pruned k f) n ≡ chars_of f n = ap (option_and_then chars_in) (content_of-pruned k f n h.forest hs.0) in
      let fits : Fits (Splice n at rest taken put) (pruned k f) = record { forest = IsForest-pruned f prunes.document h.forest; here = HasPart-same f (pruned k f) n at rest taken put c h.here } in
      let words = spliced_at f n at (length taken) put in
      let same : pruned k (revised f n (with_chars words)) ≡ revised (pruned k f) n (with_chars (spliced_at (pruned k f) n at (length taken) put)) =
      pruned-revised k f n (with_chars words) ∙ ap (λ chars. revised (pruned k f) n (with_chars chars)) (sym (spliced_at-same f (pruned k f) n at (length taken) put c)) in
      let left = after (Splice n at rest taken put) f prunes fits same in
      record { fits = fits; same = same; turns = refl; names = (hs.0, tt); prunes = left.0; stays = left.1 }
  down (SetAttributes n list) f prunes h hs =
      let c = content_of-pruned k f n h.forest hs.0 in
      let fits : Fits (SetAttributes n list) (pruned k f) = record { forest = IsForest-pruned f prunes.document h.forest; here = (ap (λ o. option_map_or is_element o false) c ∙ h.here.0, h.here.1) } in
      let same = pruned-revised k f n (with_attributes list) in
      let rest = after (SetAttributes n list) f prunes fits same in
      record { fits = fits; same = same; turns = λ i. SetAttributes n (unwrap_or (option_and_then attributes_in (c i)) list); names = (hs.0, tt); prunes = rest.0; stays = rest.1 }

  -- ---- a change of what is left is one of the whole

  CanLink-up : (f : Forest Content) (p : ℕ) (b : Option ℕ) (n : ℕ) → IsForest f → CanLink (pruned k f) p b n → CanLink f p b n
  CanLink-up f p b n ok can = record {
    place = CanPut-pruned k f p b n ok can.place;
    parent = sym (ap (λ o. option_map_or may_have_children o false) (content_of-pruned k f p ok can.place.parent)) ∙ can.parent;
  }

  left_before : (f : Forest Content) (p : ℕ) (b : Option ℕ) → IsForest f → IfSome b (λ m. parent_of (pruned k f) m ≡ Some p) → Each (IsLeft k f) (listed b)
  left_before f p None ok h = tt
  left_before f p (Some m) ok h = ((parent_count (pruned k f) m p (IsDistinct-pruned k f ok.distinct) h).0, tt)

  pub up : (x : Change) (f : Forest Content) → Prunes k f → IsForest f → Fits x (pruned k f) → Fits x f × Each (IsLeft k f) (named x)
  up (Remove n) f prunes ok h =
      let here = (parent_count (pruned k f) n (unwrap_or (parent_of (pruned k f) n) 0) (IsDistinct-pruned k f ok.distinct) (given_parent (pruned k f) n h.here)).0 in
      (record { forest = ok; here = (let e = parent_of-pruned k f n ok.distinct here in rw (← e) h.here) }, (here, tt))
  up (Insert n p b) f prunes ok h = (
    record { forest = ok; here = CanLink-up f p b n ok h.here },
    (h.here.place.node, (h.here.place.parent, left_before f p b ok h.here.place.before)),
  )
  up (Move n p b) f prunes ok h =
      let here = (parent_count (pruned k f) n (unwrap_or (parent_of (pruned k f) n) 0) (IsDistinct-pruned k f ok.distinct) (given_parent (pruned k f) n h.here.0)).0 in
      let some : IsSome (parent_of f n) = (let e = parent_of-pruned k f n ok.distinct here in rw (← e) h.here.0) in
      let g = IsForest-unlink f (unwrap_or (parent_of f n) 0) n ok (given_parent f n some) in
      let e = pruned-unlink k f n ok here (prunes.out n here) in
      let can : CanLink (pruned k (unlink f n)) p b n = subst (λ (w : Forest Content). CanLink w p b n) (sym e) h.here.1 in
      let back : (l : ℕ) → IsLeft k (unlink f n) l → IsLeft k f l = λ l w. (let w' = subst (λ (v : Forest Content). 0 < count_of v l) e w in omega (arith, w', total-unlink (λ m _. cond (eqb m l) 1 0) (pruned k f) n)) in
      (record { forest = ok; here = (some, CanLink-up (unlink f n) p b n g can) }, (here, (back p can.place.parent, each b back (left_before (unlink f n) p b g can.place.before))))
    where
      each : (o : Option ℕ) → ((l : ℕ) → IsLeft k (unlink f n) l → IsLeft k f l) → Each (IsLeft k (unlink f n)) (listed o) → Each (IsLeft k f) (listed o)
      each None go w = tt
      each (Some m) go w = (go m w.0, tt)
  up (SetText n words) f prunes ok h =
      let here = stands (pruned k f) n has_chars h.here.0 in
      (record { forest = ok; here = (sym (ap (λ o. option_map_or has_chars o false) (content_of-pruned k f n ok here)) ∙ h.here.0, h.here.1) }, (here, tt))
  up (Splice n at rest taken put) f prunes ok h =
      let here = stands (pruned k f) n has_chars (part_chars (pruned k f) n at rest taken put h.here) in
      (record { forest = ok; here = HasPart-same (pruned k f) f n at rest taken put (sym (ap (option_and_then chars_in) (content_of-pruned k f n ok here))) h.here }, (here, tt))
  up (SetAttributes n list) f prunes ok h =
      let here = stands (pruned k f) n is_element h.here.0 in
      (record { forest = ok; here = (sym (ap (λ o. option_map_or is_element o false) (content_of-pruned k f n ok here)) ∙ h.here.0, h.here.1) }, (here, tt))

  -- ---- which labels can be pruned

  pub prunes_whole : (f : Forest Content) → IsForest f → k 0 ≡ false → IsWhole k f → Prunes k f
  prunes_whole f ok zero_left whole = record { document = zero_left; out = whole_out k f ok.distinct whole }

  gone : (f : Forest Content) (l : ℕ) → k l ≡ true → 0 < times (tops f) l → IsDistinct f → count_of (pruned k f) l ≡ 0
  gone Nil l is top once = absurd (omega (arith, top))
  gone (Tree m c ks rest) l is top once =
      let le = count_of-pruned k rest l in
      elim (eqb_tells m l) [
        | inl (e, same) ↦ (let t : k m ≡ true = ap k same ∙ is in let one = rw e at (once l) in rw t (omega (arith, one, le)))
        | inr (e, _) ↦ (
            let one : 0 + (count_of ks l + count_of rest l) ≤ 1 = rw e at (once l) in
            let top' : 0 < times (tops rest) l = (let t = rw e at top in omega (arith, t)) in
            let none : count_of ks l ≡ 0 = omega (arith, one, top', times-tops rest l) in
            let ih = gone rest l is top' (λ j. omega (arith, once j)) in
            elim (true_or_false (k m)) [ inl t ↦ rw t ih | inr t ↦ rw (t, e) (omega (arith, none, ih)) ])
      ]

  pub prunes_roots : (f : Forest Content) → IsForest f → k 0 ≡ false → ((l : ℕ) → k l ≡ true → parent_of f l ≡ None) → Prunes k f
  prunes_roots f ok zero_left roots = record {
    document = zero_left;
    out = λ l here. elim (true_or_false (k l)) [
      | inl t ↦ absurd (let all = count_of-pruned k f l in let none = gone f l t (root_top f l ok.distinct (omega (arith, here, all)) (roots l t)) ok.distinct in omega (arith, here, none))
      | inr t ↦ t
    ];
  }

-- ---- one loose tree

module _ (n : ℕ) where
  pruned_absent : (f : Forest Content) → times (tops f) n ≡ 0 → pruned (λ l. l == n) f ≡ f
  pruned_absent Nil none = refl
  pruned_absent (Tree m c ks rest) none =
      elim (eqb_tells m n) [
        | inl (e, _) ↦ absurd (let none' = rw e at none in omega (arith, none'))
        | inr (e, _) ↦ (let none' = rw e at none in rw e (ap (Tree m c ks) (pruned_absent rest (omega (arith, none')))))
      ]

  pruned_top : (f : Forest Content) → IsDistinct f → 0 < times (tops f) n → pruned (λ l. l == n) f ≡ without f n
  pruned_top Nil once top = absurd (omega (arith, top))
  pruned_top (Tree m c ks rest) once top =
      elim (eqb_tells m n) [
        | inl (e, _) ↦ (let one = rw e at (once n) in rw e (pruned_absent rest (omega (arith, one, times-tops rest n))))
        | inr (e, _) ↦ (
            let one : 0 + (count_of ks n + count_of rest n) ≤ 1 = rw e at (once n) in
            let top' : 0 < times (tops rest) n = (let t = rw e at top in omega (arith, t)) in
            let none : count_of ks n ≡ 0 = omega (arith, one, top', times-tops rest n) in
            let here = without_absent ks n none in
            let there = pruned_top rest (λ j. omega (arith, once j)) top' in
            rw e (λ i. Tree m c (sym here i) (there i)))
      ]

  -- the forest without a loose tree is what is left where its root's label is pruned
  pub pruned_tree : (f : Forest Content) → IsForest f → 0 < count_of f n → parent_of f n ≡ None → pruned (λ l. l == n) f ≡ without f n
  pruned_tree f ok here root = pruned_top f ok.distinct (root_top f n ok.distinct here root)
