-- The names of a list of declarations, and their places.
use Rattle.std.proofs.Common.{◌≡◌, ℕ, Bool, true, false, true≢false, cond, zero, suc, ◌<◌, get_or, arith, List, [], ◌∷◌, ◌++◌, Option, Some, None, is_some, refl, sym, ap, subst, ◌∙◌, length, set, slice_get, nat_cmp, is_eq, Ordering, Less, Equal, Greater, Decides, bytes_eq, OnOk, OnErr, Result, Ok, Err}
use Rattle.std.specs.List.{IsDistinct, AllByRecursion}
use Rattle.std.specs.Map.{lookup}
use Rattle.std.specs.Ordering.{match_ordering}
use Rattle.std.specs.Cmp.Lexicographic.{slice_cmp}
use Rattle.std.specs.BTreeMap.{insert_entry}
use Rattle.std.specs.declared.vec.Vec.{Vec}
use Rattle.std.proofs.lemmas.Slice.Eq.{bytes_eq-Decides}
use Rattle.std.proofs.lemmas.Map.Text.{is_eq-slice_cmp}
use Rattle.css_value.specs.StyleText.{Declaration}
use Rattle.css_value.specs.DeclarationList.{value_of, set_in, unset_in, names_of}
use Rattle.css_value.specs.DeclarationMap.{declarations_of, is_entry, place_in, IsPlaced}
use Rattle.css_value.proofs.Names.{same-name, name-is}

turned : (a b : List ℕ) → bytes_eq a b ≡ false → bytes_eq b a ≡ false
turned a b other = by_test (bytes_eq b a) (bytes_eq-Decides b a)
  where
    by_test : (t : Bool) → Decides t (b ≡ a) → t ≡ false
    by_test false d = refl
    by_test true d = absurd (let same : bytes_eq a b ≡ true = (bytes_eq-Decides a b).1 (sym (d.0 refl)) in let e = sym same ∙ other in cc)

-- ---- distinct names

module _ (P : List ℕ → Type 0) where
  abbrev AllNamed : List Declaration → Type 0
  AllNamed list = AllByRecursion P (names_of list)

  all-set : (list : List Declaration) (name value : List ℕ) → AllNamed list → P name → AllNamed (set_in list name value)
  all-set [] name value all own = (own, tt)
  all-set (d ∷ list) name value all own = by_test (bytes_eq name d.name) (all-set list name value all.1 own)
    where
      by_test : (b : Bool) → AllNamed (set_in list name value) → AllNamed (cond b (record { name = d.name; value = value } ∷ list) (d ∷ set_in list name value))
      by_test true more = all
      by_test false more = (all.0, more)

  all-unset : (list : List Declaration) (name : List ℕ) → AllNamed list → AllNamed (unset_in list name)
  all-unset [] name all = tt
  all-unset (d ∷ list) name all = by_test (bytes_eq name d.name) (all-unset list name all.1)
    where
      by_test : (b : Bool) → AllNamed (unset_in list name) → AllNamed (cond b list (d ∷ unset_in list name))
      by_test true more = all.1
      by_test false more = (all.0, more)

  all-at : (names : List (List ℕ)) (i : ℕ) (name : List ℕ) → slice_get names i ≡ Some name → AllByRecursion P names → P name
  all-at [] zero name at all = absurd (let t = at in cc)
  all-at [] (suc i) name at all = absurd (let t = at in cc)
  all-at (n ∷ names) zero name at all = let same : n ≡ name = (let t = at in cc) in subst P same all.0
  all-at (n ∷ names) (suc i) name at all = all-at names i name at all.1

pub distinct-nothing : IsDistinct bytes_eq (names_of [])
unfolding IsDistinct
distinct-nothing = tt

pub distinct-set : (list : List Declaration) (name value : List ℕ) → IsDistinct bytes_eq (names_of list) → IsDistinct bytes_eq (names_of (set_in list name value))
unfolding IsDistinct
distinct-set [] name value distinct = (tt, tt)
distinct-set (d ∷ list) name value distinct = by_test (bytes_eq name d.name) refl (distinct-set list name value distinct.1)
  where
    by_test : (b : Bool) → bytes_eq name d.name ≡ b → IsDistinct bytes_eq (names_of (set_in list name value)) → IsDistinct bytes_eq (names_of (cond b (record { name = d.name; value = value } ∷ list) (d ∷ set_in list name value)))
    by_test true is more = distinct
    by_test false is more = (all-set (λ other. bytes_eq d.name other ≡ false) list name value distinct.0 (turned name d.name is), more)

pub distinct-unset : (list : List Declaration) (name : List ℕ) → IsDistinct bytes_eq (names_of list) → IsDistinct bytes_eq (names_of (unset_in list name))
unfolding IsDistinct
distinct-unset [] name distinct = tt
distinct-unset (d ∷ list) name distinct = by_test (bytes_eq name d.name) (distinct-unset list name distinct.1)
  where
    by_test : (b : Bool) → IsDistinct bytes_eq (names_of (unset_in list name)) → IsDistinct bytes_eq (names_of (cond b list (d ∷ unset_in list name)))
    by_test true more = distinct.1
    by_test false more = (all-unset (λ other. bytes_eq d.name other ≡ false) list name distinct.0, more)

-- ---- pairs that change

module _ {A B : Type 0} where
  pub names-written : (es : List (Vec ℕ A × Vec ℕ B)) (i : ℕ) (e : Vec ℕ A × Vec ℕ B) (value : Vec ℕ B) → slice_get es i ≡ Some e → names_of (declarations_of (set es i (e.0, value))) ≡ names_of (declarations_of es)
  names-written [] zero e value at = refl
  names-written [] (suc i) e value at = refl
  names-written (f ∷ es) zero e value at =
      let same : f ≡ e = (let t = at in cc) in
      ap (λ (x : Vec ℕ A × Vec ℕ B). x.0.items ∷ names_of (declarations_of es)) (sym same)
  names-written (f ∷ es) (suc i) e value at = ap (λ names. f.0.items ∷ names) (names-written es i e value at)

  pub set-at : (name : List ℕ) (value : Vec ℕ B) (es : List (Vec ℕ A × Vec ℕ B)) (i : ℕ) (e : Vec ℕ A × Vec ℕ B) → slice_get es i ≡ Some e → IsDistinct bytes_eq (names_of (declarations_of es)) → slice_get (names_of (declarations_of es)) i ≡ Some name → declarations_of (set es i (e.0, value)) ≡ set_in (declarations_of es) name value.items
  unfolding IsDistinct
  set-at name value [] zero e at distinct named = absurd (let t = at in cc)
  set-at name value [] (suc i) e at distinct named = absurd (let t = at in cc)
  set-at name value (f ∷ es) zero e at distinct named =
      let same : f ≡ e = (let t = at in cc) in
      let own : f.0.items ≡ name = (let t = named in cc) in
      let put : List ℕ → Declaration = λ n. record { name = n; value = value.items } in
      let d : Declaration = record { name = f.0.items; value = f.1.items } in
      ap (λ (x : Vec ℕ A × Vec ℕ B). put x.0.items ∷ declarations_of es) (sym same)
      ∙ sym (ap (λ b. cond b (put f.0.items ∷ declarations_of es) (d ∷ set_in (declarations_of es) name value.items)) ((bytes_eq-Decides name f.0.items).1 (sym own)))
  set-at name value (f ∷ es) (suc i) e at distinct named =
      let d : Declaration = record { name = f.0.items; value = f.1.items } in
      let apart : bytes_eq name f.0.items ≡ false = turned f.0.items name (all-at (λ n. bytes_eq f.0.items n ≡ false) (names_of (declarations_of es)) i name named distinct.0) in
      ap (λ list. d ∷ list) (set-at name value es i e at distinct.1 named)
      ∙ sym (ap (λ b. cond b (record { name = f.0.items; value = value.items } ∷ declarations_of es) (d ∷ set_in (declarations_of es) name value.items)) apart)

  -- past the end there is no name
  pub nameless : (es : List (Vec ℕ A × Vec ℕ B)) (i : ℕ) (name : List ℕ) → (i < length es → ⊥) → slice_get (names_of (declarations_of es)) i ≡ Some name → (Q : Type 0) → Q
  nameless [] zero name past at Q = absurd (let t = at in cc)
  nameless [] (suc i) name past at Q = absurd (let t = at in cc)
  nameless (e ∷ es) zero name past at Q = absurd (past (omega arith))
  nameless (e ∷ es) (suc i) name past at Q = nameless es i name (λ l. past (omega (arith, l))) at Q

  pub held-at : (es : List (Vec ℕ A × Vec ℕ B)) (i : ℕ) (e : Vec ℕ A × Vec ℕ B) → i < length es → get_or es i e ≡ e → slice_get es i ≡ Some e
  held-at [] zero e low is = absurd (omega (arith, low))
  held-at [] (suc i) e low is = absurd (omega (arith, low))
  held-at (f ∷ es) zero e low is = ap Some is
  held-at (f ∷ es) (suc i) e low is = held-at es i e (omega (arith, low)) is

  pub pushed : (es : List (Vec ℕ A × Vec ℕ B)) (e : Vec ℕ A × Vec ℕ B) → declarations_of (es ++ e ∷ []) ≡ declarations_of es ++ record { name = e.0.items; value = e.1.items } ∷ []
  pushed [] e = refl
  pushed (f ∷ es) e = ap (λ list. record { name = f.0.items; value = f.1.items } ∷ list) (pushed es e)

  -- the name of an entry that was looked for
  pub entry-name : (name : List ℕ) (es : List (Vec ℕ A × Vec ℕ B)) (i : ℕ) → is_entry name (slice_get es i) ≡ true → slice_get (names_of (declarations_of es)) i ≡ Some name
  entry-name name [] zero is = absurd (true≢false (sym is))
  entry-name name [] (suc i) is = absurd (true≢false (sym is))
  entry-name name (e ∷ es) zero is = ap Some (sym (same-name name e.0.items is))
  entry-name name (e ∷ es) (suc i) is = entry-name name es i is

pub set-none : (name value : List ℕ) (list : List Declaration) → value_of list name ≡ None → set_in list name value ≡ list ++ record { name = name; value = value } ∷ []
set-none name value [] none = refl
set-none name value (d ∷ list) none = by_test (bytes_eq name d.name) none (set-none name value list)
  where
    own : Declaration
    own = record { name = name; value = value }

    by_test : (b : Bool) → cond b (Some d.value) (value_of list name) ≡ None → (value_of list name ≡ None → set_in list name value ≡ list ++ own ∷ []) → cond b (record { name = d.name; value = value } ∷ list) (d ∷ set_in list name value) ≡ d ∷ (list ++ own ∷ [])
    by_test true is more = absurd (let t = is in cc)
    by_test false is more = ap (λ l. d ∷ l) (more is)

-- ---- the places of names

more : {X : Type 0} (b : Bool) (v : X) (r : Option X) → is_some r ≡ true → is_some (cond b (Some v) r) ≡ true
more true v r h = refl
more false v r h = h

twice : {X : Type 0} (b : Bool) (v w : X) (r : Option X) → cond b (Some v) r ≡ cond b (Some v) (cond b (Some w) r)
twice true v w r = refl
twice false v w r = refl

swapped : {X : Type 0} (a b : Bool) (v w : X) (r : Option X) → (a ≡ true → b ≡ false) → cond a (Some w) (cond b (Some v) r) ≡ cond b (Some v) (cond a (Some w) r)
swapped true b v w r apart = sym (ap (λ t. cond t (Some v) (Some w)) (apart refl))
swapped false b v w r apart = refl

names-pushed : (list : List Declaration) (d : Declaration) → names_of (list ++ d ∷ []) ≡ names_of list ++ d.name ∷ []
names-pushed [] d = refl
names-pushed (e ∷ list) d = ap (λ names. e.name ∷ names) (names-pushed list d)

at-end : (names : List (List ℕ)) (name : List ℕ) → slice_get (names ++ name ∷ []) (length names) ≡ Some name
at-end [] name = refl
at-end (n ∷ names) name = at-end names name

before-end : (names : List (List ℕ)) (name own : List ℕ) (i : ℕ) → slice_get names i ≡ Some own → slice_get (names ++ name ∷ []) i ≡ Some own
before-end [] name own zero at = absurd (let t = at in cc)
before-end [] name own (suc i) at = absurd (let t = at in cc)
before-end (n ∷ names) name own zero at = at
before-end (n ∷ names) name own (suc i) at = before-end names name own i at

pub length-names : {A B : Type 0} (es : List (Vec ℕ A × Vec ℕ B)) → length (names_of (declarations_of es)) ≡ length es
length-names [] = refl
length-names (e ∷ es) = ap suc (length-names es)

module _ {A : Type 0} where
  abbrev pub by_items : Vec ℕ A → Vec ℕ A → Ordering
  by_items x y = slice_cmp nat_cmp x.items y.items

  pub by-order : (name : List ℕ) (es : List (Vec ℕ A × ℕ)) → lookup (λ k. is_eq (slice_cmp nat_cmp name k.items)) es ≡ place_in es name
  by-order name [] = refl
  by-order name (e ∷ es) =
      ap (λ b. cond b (Some e.1) (lookup (λ k. is_eq (slice_cmp nat_cmp name k.items)) es)) (is_eq-slice_cmp name e.0.items)
      ∙ ap (cond (bytes_eq name e.0.items) (Some e.1)) (by-order name es)

  place-insert : (n : List ℕ) (key : Vec ℕ A) (v : ℕ) (es : List (Vec ℕ A × ℕ)) → place_in (insert_entry by_items es key v) n ≡ cond (bytes_eq n key.items) (Some v) (place_in es n)
  place-insert n key v [] = refl
  place-insert n key v (e ∷ es) = by_test (by_items key e.0) refl (place-insert n key v es)
    where
      rest : Option ℕ
      rest = place_in es n

      both : bytes_eq key.items e.0.items ≡ false → bytes_eq n e.0.items ≡ true → bytes_eq n key.items ≡ false
      both apart is = subst (λ m. bytes_eq m key.items ≡ false) (sym (same-name n e.0.items is)) (turned key.items e.0.items apart)

      by_test : (r : Ordering) → by_items key e.0 ≡ r → place_in (insert_entry by_items es key v) n ≡ cond (bytes_eq n key.items) (Some v) rest → place_in (match_ordering r ((key, v) ∷ e ∷ es) ((e.0, v) ∷ es) (e ∷ insert_entry by_items es key v)) n ≡ cond (bytes_eq n key.items) (Some v) (cond (bytes_eq n e.0.items) (Some e.1) rest)
      by_test Less is further = refl
      by_test Equal is further =
          let same : key.items ≡ e.0.items = same-name key.items e.0.items (sym (is_eq-slice_cmp key.items e.0.items) ∙ ap is_eq is) in
          twice (bytes_eq n e.0.items) v e.1 rest ∙ ap (λ k. cond (bytes_eq n k) (Some v) (cond (bytes_eq n e.0.items) (Some e.1) rest)) (sym same)
      by_test Greater is further =
          ap (cond (bytes_eq n e.0.items) (Some e.1)) further
          ∙ swapped (bytes_eq n e.0.items) (bytes_eq n key.items) v e.1 rest (both (sym (is_eq-slice_cmp key.items e.0.items) ∙ ap is_eq is))

  -- a name without a place is no name of the list
  pub placeless : (name : List ℕ) (es : List (Vec ℕ A × ℕ)) (list : List Declaration) → IsPlaced es (names_of list) → place_in es name ≡ None → value_of list name ≡ None
  placeless name es list placed none = search list placed.0
    where
      search : (list : List Declaration) → AllByRecursion (λ n. is_some (place_in es n) ≡ true) (names_of list) → value_of list name ≡ None
      search [] all = refl
      search (d ∷ list) all = by_test (bytes_eq name d.name) refl (search list all.1)
        where
          by_test : (b : Bool) → bytes_eq name d.name ≡ b → value_of list name ≡ None → cond b (Some d.value) (value_of list name) ≡ None
          by_test true is further = absurd (true≢false (sym all.0 ∙ ap (λ n. is_some (place_in es n)) (sym (same-name name d.name is)) ∙ ap is_some none))
          by_test false is further = further

  pub placed-pushed : (es new : List (Vec ℕ A × ℕ)) (key : Vec ℕ A) (v : ℕ) (names : List (List ℕ)) (name : List ℕ) → new ≡ insert_entry by_items es key v → key.items ≡ name → v ≡ length names → IsPlaced es names → IsPlaced new (names ++ name ∷ [])
  placed-pushed es new key v names name is named at placed = (all-known names placed.0, right)
    where
      found : (n : List ℕ) → place_in new n ≡ cond (bytes_eq n name) (Some v) (place_in es n)
      found n = ap (λ list. place_in list n) is ∙ place-insert n key v es ∙ ap (λ k. cond (bytes_eq n k) (Some v) (place_in es n)) named

      all-known : (ns : List (List ℕ)) → AllByRecursion (λ n. is_some (place_in es n) ≡ true) ns → AllByRecursion (λ n. is_some (place_in new n) ≡ true) (ns ++ name ∷ [])
      all-known [] all = (ap is_some (found name) ∙ ap (λ b. is_some (cond b (Some v) (place_in es name))) (name-is name), tt)
      all-known (n ∷ ns) all = (ap is_some (found n) ∙ more (bytes_eq n name) v (place_in es n) all.0, all-known ns all.1)

      right : (n : List ℕ) (i : ℕ) → place_in new n ≡ Some i → slice_get (names ++ name ∷ []) i ≡ Some n
      right n i h = by_test (bytes_eq n name) refl (sym (found n) ∙ h)
        where
          by_test : (b : Bool) → bytes_eq n name ≡ b → cond b (Some v) (place_in es n) ≡ Some i → slice_get (names ++ name ∷ []) i ≡ Some n
          by_test true same own =
              let end : v ≡ i = (let t = own in cc) in
              ap (slice_get (names ++ name ∷ [])) (sym end ∙ at) ∙ at-end names name ∙ ap Some (sym (same-name n name same))
          by_test false other old = before-end names name n i (placed.1 n i old)

-- the list after a declaration of a new name
pub placed-new : {A : Type 0} (es new : List (Vec ℕ A × ℕ)) (key : Vec ℕ A) (v : ℕ) (list after : List Declaration) (name value : List ℕ) → new ≡ insert_entry by_items es key v → key.items ≡ name → v ≡ length (names_of list) → after ≡ list ++ record { name = name; value = value } ∷ [] → IsPlaced es (names_of list) → IsPlaced new (names_of after)
placed-new es new key v list after name value is named at pushed placed =
    subst (IsPlaced new) (sym (ap names_of pushed ∙ names-pushed list (record { name = name; value = value }))) (placed-pushed es new key v (names_of list) name is named at placed)

-- setting a property, or failing to
pub put-distinct : {X E : Type 0} (r : Result X E) (old new : List Declaration) (name value : List ℕ) → OnOk r (new ≡ set_in old name value) → OnErr r (new ≡ old) → IsDistinct bytes_eq (names_of old) → IsDistinct bytes_eq (names_of new)
put-distinct (Ok x) old new name value ok err h = subst (λ list. IsDistinct bytes_eq (names_of list)) (sym ok) (distinct-set old name value h)
put-distinct (Err e) old new name value ok err h = subst (λ list. IsDistinct bytes_eq (names_of list)) (sym err) h

pub start-placed : {A : Type 0} (es : List (Vec ℕ A × ℕ)) (list : List Declaration) → es ≡ [] → list ≡ [] → IsDistinct bytes_eq (names_of list) × IsPlaced es (names_of list)
start-placed es list none empty = (
  subst (λ l. IsDistinct bytes_eq (names_of l)) (sym empty) distinct-nothing,
  subst (λ l. IsPlaced es (names_of l)) (sym empty) (tt, λ name i h. absurd (let t = sym (ap (λ ps. place_in ps name) none) ∙ h in cc)),
)
