-- The sibling after a node that is carried to the end of another one comes to stand where the node stood.
use Rattle.std.proofs.Common.{◌≡◌, ◌≢◌, ℕ, ◌+◌, ◌<◌, ◌≤◌, true, List, [], ◌∷◌, cond, eqb, Option, Some, None, IfSome, refl, sym, ap, subst, ◌∙◌, inl, inr, arith}
use Rattle.std.specs.Option.{option_map, option_map_or, option_and_then}
use Rattle.std.proofs.lemmas.Bool.{eq-eqb}
use Rattle.std.proofs.lemmas.Bool.Decides.{eqb_tells}
use Rattle.edit_model.specs.DomModel.Forest.{Forest, Seen, times, taken_from, put_in, first_in, after_in, IsDistinct, CanPut, seek, parent_of, children_of, next_of, link, unlink}
use Rattle.edit_model.specs.DomModel.Places.{place_in, index_of}
use Rattle.edit_model.proofs.DomModel.Links.{seen, parent_count, times-children_of, IsDistinct-unlink, parent_of-unlink, children_of-unlink, parent_of-link, children_of-link}
use Rattle.edit_model.proofs.DomModel.Neighbours.{parent_of-next}
use Rattle.edit_model.specs.LiveRange.declared.places.Point.{Point}
use Rattle.edit_model.specs.NodeArena.declared.NodeRef.{NodeRef}
use Rattle.edit_model.specs.State.{State}
use Rattle.edit_model.specs.Edit.{Insert, Remove, is_made_edit, changed, with_change, trees_after}
use Rattle.edit_model.specs.Action.{applied}
use Rattle.edit_model.specs.Possible.{freed}
use Rattle.edit_model.specs.Gives.{label_of}
use Rattle.edit_model.proofs.Tests.{inserts}
use Rattle.edit_doc.specs.Extracting.{TellsIndex}

-- ---- lists

times_taken : (xs : List ℕ) (n m : ℕ) → n ≢ m → times (taken_from xs n) m ≡ times xs m
times_taken [] n m off = refl
times_taken (x ∷ xs) n m off = elim (eqb_tells x n) [
  | inl (t, is) ↦ rw t (elim (eqb_tells x m) [ inl (_, same) ↦ absurd (off (sym is ∙ same)) | inr (u, _) ↦ rw u (omega arith) ])
  | inr (t, _) ↦ rw t (ap (λ k. cond (eqb x m) 1 0 + k) (times_taken xs n m off))
]

record Follows (xs : List ℕ) (n m : ℕ) : Type 0 where
  other : n ≢ m
  here : 0 < times xs m
  place : place_in (taken_from xs n) m ≡ place_in xs n

follows : (xs : List ℕ) (n m : ℕ) → ((k : ℕ) → times xs k ≤ 1) → after_in xs n ≡ Some m → Follows xs n m
follows [] n m once e = absurd (let e' = e in cc)
follows (x ∷ xs) n m once e = elim (eqb_tells x n) [
  | inl (t, is) ↦ at_front xs once t is (let e' = rw t at e in e')
  | inr (t, off) ↦ (
      let r = follows xs n m (λ k. (let h = once k in omega (arith, h))) (let e' = rw t at e in e') in
      let here = r.here in
      let apart : x ≢ m = λ same. (let h = once m in elim (eqb_tells x m) [ inl (u, _) ↦ (let h' = rw u at h in omega (arith, h', here)) | inr (_, isnt) ↦ isnt same ]) in
      record {
        other = r.other;
        here = omega (arith, here);
        place = rw t (elim (eqb_tells x m) [ inl (_, same) ↦ absurd (apart same) | inr (u, _) ↦ rw u (ap (λ k. k + 1) r.place) ]);
      })
]
  where
    at_front : (ys : List ℕ) → ((k : ℕ) → times (x ∷ ys) k ≤ 1) → eqb x n ≡ true → x ≡ n → first_in ys ≡ Some m → Follows (x ∷ ys) n m
    at_front [] one t is h = absurd (let h' = h in cc)
    at_front (y ∷ ys) one t is h =
        let same : y ≡ m = (let h' = h in cc) in
        let own : eqb y m ≡ true = eq-eqb y m same in
        record {
          other = λ e. (let k = one m in let u : eqb x m ≡ true = eq-eqb x m (is ∙ e) in let k' = rw (u, own) at k in omega (arith, k'));
          here = rw own (omega arith);
          place = rw (t, own) refl;
        }

place_put : (xs : List ℕ) (n m : ℕ) → 0 < times xs m → place_in (put_in xs None n) m ≡ place_in xs m
place_put [] n m some = absurd (omega (arith, some))
place_put (x ∷ xs) n m some = elim (eqb_tells x m) [
  | inl (t, _) ↦ rw t refl
  | inr (t, _) ↦ (let some' = rw t at some in rw t (ap (λ k. k + 1) (place_put xs n m (omega (arith, some')))))
]

-- ---- forests

module _ {C : Type 0} where
  -- the label of a parent, read in what the search tells
  parent_told : (f : Forest C) (m p : ℕ) (o : Seen C) → seek None f m ≡ Some o → parent_of f m ≡ Some p → o.parent ≡ Some p
  parent_told f m p o e up = ap (option_and_then (λ (s : Seen C). s.parent)) (sym e) ∙ up

  index_under : (f : Forest C) (m p : ℕ) → parent_of f m ≡ Some p → index_of f m ≡ place_in (children_of f p) m
  index_under f m p up = ap (λ o. option_map_or (λ q. place_in (children_of f q) m) o 0) up

  module _ (f : Forest C) (once : IsDistinct f) (p n m : ℕ) (up : parent_of f n ≡ Some p) (after : next_of f n ≡ Some m) where
    told : Follows (children_of f p) n m
    told = follows (children_of f p) n m (λ k. times-children_of f p k once) (ap (option_and_then (λ q. after_in (children_of f q) n)) (sym up) ∙ after)

    up_next : parent_of f m ≡ Some p
    up_next = parent_of-next f once n m p up after

    up_unlinked : parent_of (unlink f n) m ≡ Some p
    up_unlinked =
        let s = seen f m once (parent_count f m p once up_next).0 in
        parent_of-unlink f p n once up m s.0 s.2
        ∙ elim (eqb_tells n m) [ inl (_, same) ↦ absurd (told.other same) | inr (u, _) ↦ rw u (parent_told f m p s.0 s.2 up_next) ]

    kids_unlinked : children_of (unlink f n) p ≡ taken_from (children_of f p) n
    kids_unlinked = children_of-unlink f p n once up p ∙ rw (eq-eqb p p refl) refl

    pub next_unlinked : index_of (unlink f n) m ≡ index_of f n
    next_unlinked =
        index_under (unlink f n) m p up_unlinked
        ∙ (ap (λ ks. place_in ks m) kids_unlinked ∙ (told.place ∙ sym (index_under f n p up)))

    module _ (d : ℕ) (can : CanPut (unlink f n) d None n) where
      once_g : IsDistinct (unlink f n)
      once_g = IsDistinct-unlink f p n once up

      up_linked : parent_of (link (unlink f n) d None n) m ≡ Some p
      up_linked =
          let s = seen (unlink f n) m once_g (parent_count (unlink f n) m p once_g up_unlinked).0 in
          parent_of-link (unlink f n) d None n once_g can m s.0 s.2
          ∙ elim (eqb_tells n m) [ inl (_, same) ↦ absurd (told.other same) | inr (u, _) ↦ rw u (parent_told (unlink f n) m p s.0 s.2 up_unlinked) ]

      kid_left : 0 < times (children_of (unlink f n) p) m
      kid_left = let here = told.here in omega (arith, here, ap (λ ks. times ks m) kids_unlinked, times_taken (children_of f p) n m told.other)

      place_linked : place_in (children_of (link (unlink f n) d None n) p) m ≡ place_in (children_of (unlink f n) p) m
      place_linked =
          ap (λ ks. place_in ks m) (children_of-link (unlink f n) d None n once_g can p)
          ∙ elim (eqb_tells d p) [ inl (t, _) ↦ rw t (place_put (children_of (unlink f n) p) n m kid_left) | inr (t, _) ↦ rw t refl ]

      pub next_carried : index_of (link (unlink f n) d None n) m ≡ index_of f n
      next_carried =
          index_under (link (unlink f n) d None n) m p up_linked
          ∙ (place_linked ∙ (sym (index_under (unlink f n) m p up_unlinked) ∙ next_unlinked))

-- ---- states

-- where the node after one that is carried stands
pub tells_next : (s u t : State) (d n : ℕ) (next : Option NodeRef) (index : ℕ) → IsDistinct s.trees → u ≡ applied (Remove n) s → t ≡ applied (Insert d None n) u → is_made_edit (Insert d None n) (freed u) ≡ true →
    label_of next ≡ next_of s.trees n → index ≡ index_of s.trees n → TellsIndex t.trees (option_map (λ (r : NodeRef). record { label = r.label; offset = index }) next)
unfolding is_made_edit applied with_change changed trees_after
tells_next s u t d n next index once off on may names at = by_next next names
  where
    unlinked : u.trees ≡ unlink s.trees n
    unlinked = ap (λ (x : State). x.trees) off

    linked : t.trees ≡ link (unlink s.trees n) d None n
    linked = ap (λ (x : State). x.trees) on ∙ ap (λ f. link f d None n) unlinked

    can : CanPut (unlink s.trees n) d None n
    can = subst (λ f. CanPut f d None n) unlinked (inserts (freed u) d None n may).can

    by_parent : (o : Option ℕ) → parent_of s.trees n ≡ o → (m : ℕ) → next_of s.trees n ≡ Some m → index ≡ index_of t.trees m
    by_parent None e m is = absurd (let v : next_of s.trees n ≡ None = ap (option_and_then (λ q. after_in (children_of s.trees q) n)) e in let w = sym v ∙ is in cc)
    by_parent (Some p) e m is = at ∙ (sym (next_carried s.trees once p n m e is d can) ∙ ap (λ f. index_of f m) (sym linked))

    by_next : (o : Option NodeRef) → label_of o ≡ next_of s.trees n → IfSome (option_map (λ (r : NodeRef). record { label = r.label; offset = index }) o) (λ (x : Point). x.offset ≡ index_of t.trees x.label)
    by_next None e = tt
    by_next (Some r) e = by_parent (parent_of s.trees n) refl r.label (sym e)
