-- The positions of names in a map, as a name is added.
use Rattle.std.proofs.Common.{◌≡◌, ℕ, Bool, true, false, true≢false, cond, List, [], ◌∷◌, ◌++◌, length, map, position, Option, Some, refl, sym, ap, subst, ◌∙◌, nat_cmp, is_eq, Ordering, Less, Equal, Greater}
use Rattle.std.specs.List.{list_any, IsDistinct}
use Rattle.std.specs.Map.{lookup}
use Rattle.std.specs.Ordering.{match_ordering}
use Rattle.std.specs.Str.{bytes_eq}
use Rattle.std.specs.Cmp.Lexicographic.{slice_cmp}
use Rattle.std.specs.BTreeMap.{insert_entry}
use Rattle.std.specs.declared.vec.Vec.{Vec}
use Rattle.std.proofs.lemmas.Cmp.{nat_list_eq_equiv}
use Rattle.std.proofs.lemmas.List.{length-map, map-append}
use Rattle.std.proofs.lemmas.Map.Keys.{IsDistinct-push}
use Rattle.std.proofs.lemmas.Slice.Eq.{bytes_eq-Decides}
use Rattle.std.proofs.lemmas.Map.Text.{is_eq-slice_cmp}
use Rattle.live_range.specs.Names.{HasPositions}
use Rattle.live_range.proofs.Apart.{position-push, position-skip}

twice : {X : Type 0} (b c : Bool) (v w : X) (r : Option X) → b ≡ c → cond c (Some v) r ≡ cond b (Some v) (cond c (Some w) r)
twice true true v w r e = refl
twice true false v w r e = absurd (true≢false e)
twice false true v w r e = absurd (true≢false (sym e))
twice false false v w r e = refl

turned : {X : Type 0} (b c : Bool) (v w : X) (r : Option X) → (b ≡ true → c ≡ true → ⊥) → cond c (Some w) (cond b (Some v) r) ≡ cond b (Some v) (cond c (Some w) r)
turned true true v w r apart = absurd (apart refl refl)
turned true false v w r apart = refl
turned false c v w r apart = refl

module _ {A : Type 0} where
  abbrev by_items : Vec ℕ A → Vec ℕ A → Ordering
  by_items x y = slice_cmp nat_cmp x.items y.items

  abbrev is_key : List ℕ → Vec ℕ A → Bool
  is_key name k = is_eq (slice_cmp nat_cmp name k.items)

  same_items : (name : List ℕ) (k : Vec ℕ A) → is_key name k ≡ true → name ≡ k.items
  same_items name k h = (bytes_eq-Decides name k.items).0 (sym (is_eq-slice_cmp name k.items) ∙ h)

  one_key : (name : List ℕ) (x y : Vec ℕ A) → by_items x y ≡ Greater → is_key name x ≡ true → is_key name y ≡ true → ⊥
  one_key name x y above here there =
      let same : x.items ≡ y.items = sym (same_items name x here) ∙ same_items name y there in
      let equal : is_eq (by_items x y) ≡ true = is_eq-slice_cmp x.items y.items ∙ (bytes_eq-Decides x.items y.items).1 same in
      true≢false (sym equal ∙ ap is_eq above)

  found_after : (name : List ℕ) (key : Vec ℕ A) (v : ℕ) (es : List (Vec ℕ A × ℕ))
      → lookup (is_key name) (insert_entry by_items es key v) ≡ cond (is_key name key) (Some v) (lookup (is_key name) es)
  found_after name key v [] = refl
  found_after name key v (e ∷ es) = by (by_items key e.0) refl (found_after name key v es)
    where
      by : (r : Ordering) → by_items key e.0 ≡ r
          → lookup (is_key name) (insert_entry by_items es key v) ≡ cond (is_key name key) (Some v) (lookup (is_key name) es)
          → lookup (is_key name) (match_ordering r ((key, v) ∷ e ∷ es) ((e.0, v) ∷ es) (e ∷ insert_entry by_items es key v))
          ≡ cond (is_key name key) (Some v) (cond (is_key name e.0) (Some e.1) (lookup (is_key name) es))
      by Less is further = refl
      by Equal is further =
          let same : key.items ≡ e.0.items = same_items key.items e.0 (ap is_eq is) in
          twice (is_key name key) (is_key name e.0) v e.1 (lookup (is_key name) es) (ap (λ items. is_eq (slice_cmp nat_cmp name items)) same)
      by Greater is further =
          ap (cond (is_key name e.0) (Some e.1)) further
          ∙ turned (is_key name key) (is_key name e.0) v e.1 (lookup (is_key name) es) (one_key name key e.0 is)

  position_after : (n : List ℕ) (es : List (Vec ℕ A × ℕ)) (names : List (List ℕ)) (name : List ℕ) → list_any (bytes_eq name) names ≡ false
      → HasPositions es names → cond (bytes_eq n name) (Some (length names)) (lookup (is_key n) es) ≡ position (bytes_eq n) (names ++ name ∷ [])
  position_after n es names name none known = by (bytes_eq n name) refl
    where
      by : (b : Bool) → bytes_eq n name ≡ b → cond b (Some (length names)) (lookup (is_key n) es) ≡ position (bytes_eq n) (names ++ name ∷ [])
      by true e =
          let fresh : list_any (bytes_eq n) names ≡ false = subst (λ m. list_any (bytes_eq m) names ≡ false) (sym ((bytes_eq-Decides n name).0 e)) none in
          sym (position-push (bytes_eq n) names name fresh e)
      by false e = known n ∙ sym (position-skip (bytes_eq n) names name e)

  -- a name that is not in the list goes last
  pub positions_after : (es new : List (Vec ℕ A × ℕ)) (key : Vec ℕ A) (names : List (List ℕ)) (name : List ℕ) → new ≡ insert_entry by_items es key (length names)
      → key.items ≡ name → list_any (bytes_eq name) names ≡ false → HasPositions es names → HasPositions new (names ++ name ∷ [])
  positions_after es new key names name is named none known = λ n.
      ap (lookup (is_key n)) is
      ∙ found_after n key (length names) es
      ∙ ap (λ b. cond b (Some (length names)) (lookup (is_key n) es)) (is_eq-slice_cmp n key.items ∙ ap (bytes_eq n) named)
      ∙ position_after n es names name none known

  -- the names in their order, and their positions, with one that was not there
  pub names_after : (vs list : List (Vec ℕ A)) (own key : Vec ℕ A) (name : List ℕ) (es new : List (Vec ℕ A × ℕ)) (place : ℕ) → list ≡ vs ++ own ∷ [] → new ≡ insert_entry by_items es key place
      → own.items ≡ name → key.items ≡ name → place ≡ length vs → list_any (bytes_eq name) (map (λ v. v.items) vs) ≡ false
      → IsDistinct bytes_eq (map (λ v. v.items) vs) × HasPositions es (map (λ v. v.items) vs)
      → IsDistinct bytes_eq (map (λ v. v.items) list) × HasPositions new (map (λ v. v.items) list)
  names_after vs list own key name es new place grown is named keyed at none was =
      let names : map (λ v. v.items) list ≡ map (λ v. v.items) vs ++ name ∷ [] =
      ap (map (λ v. v.items)) grown ∙ map-append (λ v. v.items) vs (own ∷ []) ∙ ap (λ n. map (λ v. v.items) vs ++ n ∷ []) named in
      let count : place ≡ length (map (λ v. v.items) vs) = at ∙ sym (length-map vs (λ v. v.items)) in
      subst (λ ns. IsDistinct bytes_eq ns × HasPositions new ns) (sym names) (
        IsDistinct-push nat_list_eq_equiv (map (λ v. v.items) vs) name was.0 none,
        positions_after es new key (map (λ v. v.items) vs) name (is ∙ ap (insert_entry by_items es key) count) keyed none was.1,
      )

pub no_names : {A : Type 0} (vs : List (Vec ℕ A)) (es : List (Vec ℕ A × ℕ)) → vs ≡ [] → es ≡ [] → IsDistinct bytes_eq (map (λ v. v.items) vs) × HasPositions es (map (λ v. v.items) vs)
unfolding IsDistinct
no_names vs es none empty = rw (none, empty) (tt, λ n. refl)
