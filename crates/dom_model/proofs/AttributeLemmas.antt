-- Rows in order, the numbers of their names, and the list of attributes that they stand for change
-- together.
use Rattle.std.proofs.Common.{◌≡◌, ℕ, Bool, true, false, true≢false, cond, zero, suc, ◌+◌, ◌<◌, List, [], ◌∷◌, ◌++◌, Option, Some, None, is_some, option_map, refl, sym, ap, ap₂, subst, ◌∙◌, arith, drop, take, remove, nat_eq, nat_cmp, is_eq, Ordering, Less, Equal, Greater, Decides, Box, BTreeMap}
use Rattle.std.specs.Prelude.{bytes_eq, slice_get, ◌||◌, ◌&&◌, not}
use Rattle.std.specs.List.{AllZip, IsDistinct, AllByRecursion, list_any}
use Rattle.std.specs.Map.{lookup, remove_entry, keys_of, values_of}
use Rattle.std.specs.Ordering.{match_ordering}
use Rattle.std.specs.Cmp.Lexicographic.{slice_cmp}
use Rattle.std.specs.BTreeMap.{insert_entry}
use Rattle.std.specs.declared.vec.Vec.{Vec}
use Rattle.std.proofs.lemmas.Bool.Decides.{nat_tests}
use Rattle.std.proofs.lemmas.Slice.Eq.{bytes_eq-Decides}
use Rattle.std.proofs.lemmas.Map.Text.{is_eq-slice_cmp}
use Rattle.indexmap.specs.IndexMap as map
use Rattle.indexmap.specs.Layout.{set_value_at}
use Rattle.dom_model.specs.declared.attributes.Attribute.{Attribute}
use Rattle.dom_model.specs.AttributeList.{value_of, set_in, unset_in, names_of, IsDistinctNames, are_distinct}
use Rattle.dom_model.specs.AttributeMap.{is_named, number_of, IsNumbered, IsKnown, IsAbove, IsListing}

same-name : (a b : List ℕ) → bytes_eq a b ≡ true → a ≡ b
same-name a b h = (bytes_eq-Decides a b).0 h

name-is : (a : List ℕ) → bytes_eq a a ≡ true
name-is a = (bytes_eq-Decides a a).1 refl

turned : (a b : List ℕ) → bytes_eq a b ≡ false → bytes_eq b a ≡ false
turned a b other = by_test (bytes_eq b a) (bytes_eq-Decides b a)
  where
    by_test : (t : Bool) → Decides t (b ≡ a) → t ≡ false
    by_test false d = refl
    by_test true d = absurd (let same : bytes_eq a b ≡ true = (bytes_eq-Decides a b).1 (sym (d.0 refl)) in let e = sym same ∙ other in cc)

-- ---- the names of a list

pub distinct-nothing : IsDistinctNames []
unfolding IsDistinct
distinct-nothing = tt

module _ (P : List ℕ → Type 0) where
  abbrev AllNamed : List Attribute → Type 0
  AllNamed list = AllByRecursion P (names_of list)

  all-push : (list : List Attribute) (a : Attribute) → AllNamed list → P a.name → AllNamed (list ++ a ∷ [])
  all-push [] a all own = (own, tt)
  all-push (b ∷ list) a all own = (all.0, all-push list a all.1 own)

  all-set : (list : List Attribute) (name value : List ℕ) → AllNamed list → P name → AllNamed (set_in list name value)
  all-set [] name value all own = (own, tt)
  all-set (a ∷ list) name value all own = by_test (bytes_eq name a.name) (all-set list name value all.1 own)
    where
      by_test : (b : Bool) → AllNamed (set_in list name value) → AllNamed (cond b (record { name = a.name; value = value } ∷ list) (a ∷ set_in list name value))
      by_test true more = all
      by_test false more = (all.0, more)

  all-unset : (list : List Attribute) (name : List ℕ) → AllNamed list → AllNamed (unset_in list name)
  all-unset [] name all = tt
  all-unset (a ∷ list) name all = by_test (bytes_eq name a.name) (all-unset list name all.1)
    where
      by_test : (b : Bool) → AllNamed (unset_in list name) → AllNamed (cond b list (a ∷ unset_in list name))
      by_test true more = all.1
      by_test false more = (all.0, more)

  all-at : (list : List Attribute) (i : ℕ) (name : List ℕ) → is_named name (slice_get list i) ≡ true → AllNamed list → P name
  all-at [] zero name is all = absurd (true≢false (sym is))
  all-at [] (suc i) name is all = absurd (true≢false (sym is))
  all-at (a ∷ list) zero name is all = subst P (sym (same-name name a.name is)) all.0
  all-at (a ∷ list) (suc i) name is all = all-at list i name is all.1

  -- the names of the rows before a place, and at it
  pub all-next : (rows : List (ℕ × Attribute)) (i n : ℕ) (a : Attribute) → slice_get rows i ≡ Some (n, a) → AllNamed (values_of (take i rows)) → P a.name → AllNamed (values_of (take (suc i) rows))
  all-next [] zero n a is all own = tt
  all-next [] (suc i) n a is all own = tt
  all-next (r ∷ rows) zero n a is all own =
      let same : r ≡ (n, a) = (let t = is in cc) in
      (subst (λ (e : ℕ × Attribute). P e.1.name) (sym same) own, tt)
  all-next (r ∷ rows) (suc i) n a is all own = (all.0, all-next rows i n a is all.1 own)

pub distinct-set : (list : List Attribute) (name value : List ℕ) → IsDistinctNames list → IsDistinctNames (set_in list name value)
unfolding IsDistinct
distinct-set [] name value distinct = (tt, tt)
distinct-set (a ∷ list) name value distinct = by_test (bytes_eq name a.name) refl (distinct-set list name value distinct.1)
  where
    by_test : (b : Bool) → bytes_eq name a.name ≡ b → IsDistinctNames (set_in list name value) → IsDistinctNames (cond b (record { name = a.name; value = value } ∷ list) (a ∷ set_in list name value))
    by_test true is more = distinct
    by_test false is more = (all-set (λ other. bytes_eq a.name other ≡ false) list name value distinct.0 (turned name a.name is), more)

pub distinct-unset : (list : List Attribute) (name : List ℕ) → IsDistinctNames list → IsDistinctNames (unset_in list name)
unfolding IsDistinct
distinct-unset [] name distinct = tt
distinct-unset (a ∷ list) name distinct = by_test (bytes_eq name a.name) (distinct-unset list name distinct.1)
  where
    by_test : (b : Bool) → IsDistinctNames (unset_in list name) → IsDistinctNames (cond b list (a ∷ unset_in list name))
    by_test true more = distinct.1
    by_test false more = (all-unset (λ other. bytes_eq a.name other ≡ false) list name distinct.0, more)

-- ---- the test

has_name : List ℕ → List Attribute → Bool
has_name name list = list_any (λ b. bytes_eq name b.name) list

others_told : (name : List ℕ) (list : List Attribute) → has_name name list ≡ false → AllByRecursion (λ n. bytes_eq name n ≡ false) (names_of list)
unfolding has_name
others_told name [] none = tt
others_told name (a ∷ list) none = by_test (bytes_eq name a.name) refl (others_told name list) none
  where
    by_test : (b : Bool) → bytes_eq name a.name ≡ b → (has_name name list ≡ false → AllByRecursion (λ n. bytes_eq name n ≡ false) (names_of list)) → (b || has_name name list) ≡ false → AllByRecursion (λ n. bytes_eq name n ≡ false) (names_of (a ∷ list))
    by_test true is more none = absurd (true≢false none)
    by_test false is more none = (is, more none)

told_others : (name : List ℕ) (list : List Attribute) → AllByRecursion (λ n. bytes_eq name n ≡ false) (names_of list) → has_name name list ≡ false
unfolding has_name
told_others name [] all = refl
told_others name (a ∷ list) all = rw all.0 (told_others name list all.1)

pub told_distinct : (list : List Attribute) → are_distinct list ≡ true → IsDistinctNames list
unfolding IsDistinct has_name
told_distinct [] told = tt
told_distinct (a ∷ list) told = by_test (has_name a.name list) refl (told_distinct list) told
  where
    by_test : (b : Bool) → has_name a.name list ≡ b → (are_distinct list ≡ true → IsDistinctNames list) → (not b && are_distinct list) ≡ true → IsDistinctNames (a ∷ list)
    by_test true is more told = absurd (true≢false (sym told))
    by_test false is more told = (others_told a.name list is, more told)

pub distinct_told : (list : List Attribute) → IsDistinctNames list → are_distinct list ≡ true
unfolding IsDistinct has_name
distinct_told [] distinct = refl
distinct_told (a ∷ list) distinct = rw (told_others a.name list distinct.0) (distinct_told list distinct.1)

-- what is left has other names
left-apart : (list : List Attribute) (name : List ℕ) → IsDistinctNames list → AllByRecursion (λ n. bytes_eq name n ≡ false) (names_of (unset_in list name))
unfolding IsDistinct
left-apart [] name distinct = tt
left-apart (a ∷ list) name distinct = by_test (bytes_eq name a.name) refl (left-apart list name distinct.1)
  where
    by_test : (b : Bool) → bytes_eq name a.name ≡ b → AllByRecursion (λ n. bytes_eq name n ≡ false) (names_of (unset_in list name)) → AllByRecursion (λ n. bytes_eq name n ≡ false) (names_of (cond b list (a ∷ unset_in list name)))
    by_test true is more = subst (λ own. AllByRecursion (λ n. bytes_eq own n ≡ false) (names_of list)) (sym (same-name name a.name is)) distinct.0
    by_test false is more = (is, more)

apart-value : (list : List Attribute) (name : List ℕ) → AllByRecursion (λ n. bytes_eq name n ≡ false) (names_of list) → value_of list name ≡ None
apart-value [] name apart = refl
apart-value (a ∷ list) name apart = ap (λ b. cond b (Some a.value) (value_of list name)) apart.0 ∙ apart-value list name apart.1

-- a name that is unset has no value, and one that is set has this one
pub value-unset : (list : List Attribute) (name : List ℕ) → IsDistinctNames list → value_of (unset_in list name) name ≡ None
value-unset list name distinct = apart-value (unset_in list name) name (left-apart list name distinct)

pub value-set : (list : List Attribute) (name value : List ℕ) → value_of (set_in list name value) name ≡ Some value
value-set [] name value = ap (λ b. cond b (Some value) None) (name-is name)
value-set (a ∷ list) name value = by_test (bytes_eq name a.name) refl (value-set list name value)
  where
    by_test : (b : Bool) → bytes_eq name a.name ≡ b → value_of (set_in list name value) name ≡ Some value → value_of (cond b (record { name = a.name; value = value } ∷ list) (a ∷ set_in list name value)) name ≡ Some value
    by_test true is more = ap (λ b. cond b (Some value) (value_of list name)) is
    by_test false is more = ap (λ b. cond b (Some a.value) (value_of (set_in list name value) name)) is ∙ more

-- an attribute before that of a name has another
apart-at : (a : Attribute) (list : List Attribute) (i : ℕ) (name : List ℕ) → AllByRecursion (λ n. bytes_eq a.name n ≡ false) (names_of list) → is_named name (slice_get list i) ≡ true → bytes_eq name a.name ≡ false
apart-at a list i name apart is = turned a.name name (all-at (λ n. bytes_eq a.name n ≡ false) list i name is apart)

-- ---- looking for a name

pub next-name : (name : List ℕ) (i : ℕ) (rows : List (ℕ × Attribute)) → is_named name (slice_get (values_of rows) i) ≡ false → value_of (values_of (drop (i + 1) rows)) name ≡ value_of (values_of (drop i rows)) name
next-name name i rows other = ap (λ n. value_of (values_of (drop n rows)) name) (let next : i + 1 ≡ suc i = omega arith in next) ∙ further i rows other
  where
    further : (i : ℕ) (rows : List (ℕ × Attribute)) → is_named name (slice_get (values_of rows) i) ≡ false → value_of (values_of (drop (suc i) rows)) name ≡ value_of (values_of (drop i rows)) name
    further zero [] other = refl
    further zero (e ∷ es) other = sym (ap (λ b. cond b (Some e.1.value) (value_of (values_of es) name)) other)
    further (suc i) [] other = refl
    further (suc i) (e ∷ es) other = further i es other

pub value-at : (name : List ℕ) (list : List Attribute) (i : ℕ) → IsDistinctNames list → is_named name (slice_get list i) ≡ true → value_of list name ≡ option_map (λ a. a.value) (slice_get list i)
unfolding IsDistinct
value-at name [] zero distinct is = absurd (true≢false (sym is))
value-at name [] (suc i) distinct is = absurd (true≢false (sym is))
value-at name (a ∷ list) zero distinct is = ap (λ b. cond b (Some a.value) (value_of list name)) is
value-at name (a ∷ list) (suc i) distinct is =
    ap (λ b. cond b (Some a.value) (value_of list name)) (apart-at a list i name distinct.0 is)
    ∙ value-at name list i distinct.1 is

-- ---- rows that change

pub set-at : (name value : List ℕ) (rows : List (ℕ × Attribute)) (i : ℕ) (a : Attribute) → slice_get (values_of rows) i ≡ Some a → IsDistinctNames (values_of rows) → is_named name (slice_get (values_of rows) i) ≡ true → values_of (set_value_at rows i (record { name = a.name; value = value })) ≡ set_in (values_of rows) name value
unfolding IsDistinct
set-at name value [] zero a at distinct is = absurd (true≢false (sym is))
set-at name value [] (suc i) a at distinct is = absurd (true≢false (sym is))
set-at name value (e ∷ es) zero a at distinct is =
    let same : e.1 ≡ a = (let t = at in cc) in
    let put : Attribute → Attribute = λ x. record { name = x.name; value = value } in
    ap (λ x. put x ∷ values_of es) (sym same)
    ∙ sym (ap (λ b. cond b (put e.1 ∷ values_of es) (e.1 ∷ set_in (values_of es) name value)) is)
set-at name value (e ∷ es) (suc i) a at distinct is =
    ap (λ list. e.1 ∷ list) (set-at name value es i a at distinct.1 is)
    ∙ sym (ap (λ b. cond b (record { name = e.1.name; value = value } ∷ values_of es) (e.1 ∷ set_in (values_of es) name value)) (apart-at e.1 (values_of es) i name distinct.0 is))

pub unset-at : (name : List ℕ) (rows : List (ℕ × Attribute)) (i : ℕ) → IsDistinctNames (values_of rows) → is_named name (slice_get (values_of rows) i) ≡ true → values_of (remove rows i) ≡ unset_in (values_of rows) name
unfolding IsDistinct
unset-at name [] zero distinct is = absurd (true≢false (sym is))
unset-at name [] (suc i) distinct is = absurd (true≢false (sym is))
unset-at name (e ∷ es) zero distinct is = sym (ap (λ b. cond b (values_of es) (e.1 ∷ unset_in (values_of es) name)) is)
unset-at name (e ∷ es) (suc i) distinct is =
    ap (λ list. e.1 ∷ list) (unset-at name es i distinct.1 is)
    ∙ sym (ap (λ b. cond b (values_of es) (e.1 ∷ unset_in (values_of es) name)) (apart-at e.1 (values_of es) i name distinct.0 is))

pub unset-none : (name : List ℕ) (list : List Attribute) → value_of list name ≡ None → unset_in list name ≡ list
unset-none name [] none = refl
unset-none name (a ∷ list) none = by_test (bytes_eq name a.name) none (unset-none name list)
  where
    by_test : (b : Bool) → cond b (Some a.value) (value_of list name) ≡ None → (value_of list name ≡ None → unset_in list name ≡ list) → cond b list (a ∷ unset_in list name) ≡ a ∷ list
    by_test true is more = absurd (let t = is in cc)
    by_test false is more = ap (λ l. a ∷ l) (more is)

set-none : (name value : List ℕ) (list : List Attribute) → value_of list name ≡ None → set_in list name value ≡ list ++ record { name = name; value = value } ∷ []
set-none name value [] none = refl
set-none name value (a ∷ list) none = by_test (bytes_eq name a.name) none (set-none name value list)
  where
    own : Attribute
    own = record { name = name; value = value }

    by_test : (b : Bool) → cond b (Some a.value) (value_of list name) ≡ None → (value_of list name ≡ None → set_in list name value ≡ list ++ own ∷ []) → cond b (record { name = a.name; value = value } ∷ list) (a ∷ set_in list name value) ≡ a ∷ (list ++ own ∷ [])
    by_test true is more = absurd (let t = is in cc)
    by_test false is more = ap (λ l. a ∷ l) (more is)

values-push : (rows : List (ℕ × Attribute)) (n : ℕ) (a : Attribute) → values_of (rows ++ (n, a) ∷ []) ≡ values_of rows ++ a ∷ []
values-push [] n a = refl
values-push (e ∷ es) n a = ap (λ list. e.1 ∷ list) (values-push es n a)

pub values-added : (name value : List ℕ) (rows : List (ℕ × Attribute)) (n : ℕ) → value_of (values_of rows) name ≡ None → values_of (rows ++ (n, record { name = name; value = value }) ∷ []) ≡ set_in (values_of rows) name value
values-added name value rows n none = values-push rows n (record { name = name; value = value }) ∙ sym (set-none name value (values_of rows) none)

above-push : (next : ℕ) (rows : List (ℕ × Attribute)) (a : Attribute) → IsAbove next rows → IsAbove (next + 1) (rows ++ (next, a) ∷ [])
above-push next [] a above = (omega arith, tt)
above-push next (e ∷ es) a above = (omega (arith, above.0), above-push next es a above.1)

above-remove : (next : ℕ) (rows : List (ℕ × Attribute)) (i : ℕ) → IsAbove next rows → IsAbove next (remove rows i)
above-remove next [] zero above = tt
above-remove next [] (suc i) above = tt
above-remove next (e ∷ es) zero above = above.1
above-remove next (e ∷ es) (suc i) above = (above.0, above-remove next es i above.1)

pub new-row : (n : ℕ) (a : Attribute) (rows : List (ℕ × Attribute)) → IsAbove n rows → map.insert_entry nat_eq rows n a ≡ rows ++ (n, a) ∷ []
new-row n a [] above = refl
new-row n a (e ∷ es) above =
    let less : e.0 < n = above.0 in
    let other : nat_eq n e.0 ≡ false = grind (arith, nat_tests) in
    ap (λ b. cond b ((e.0, a) ∷ es) (e ∷ map.insert_entry nat_eq es n a)) other ∙ ap (λ list. e ∷ list) (new-row n a es above.1)

pub clone-rows : (es fs : List (ℕ × Attribute)) → AllZip (λ p q. (q.0 ≡ p.0) × (q.1 ≡ p.1)) es fs → fs ≡ es
clone-rows [] [] h = refl
clone-rows [] (f ∷ fs) h = absurd h
clone-rows (e ∷ es) [] h = absurd h
clone-rows (e ∷ es) (f ∷ fs) h =
    ap₂ (λ (x : ℕ × Attribute) list. x ∷ list) (ap₂ (λ (n : ℕ) (a : Attribute). (n, a)) h.0.0 h.0.1) (clone-rows es fs h.1)

-- ---- the numbers of names

more : {X : Type 0} (b : Bool) (v : X) (r : Option X) → is_some r ≡ true → is_some (cond b (Some v) r) ≡ true
more true v r h = refl
more false v r h = h

either : {X : Type 0} (b : Bool) (u v : X) (r s : Option X) → is_some (cond b (Some u) r) ≡ true → (is_some r ≡ true → is_some s ≡ true) → is_some (cond b (Some v) s) ≡ true
either true u v r s h k = refl
either false u v r s h k = k h

-- a name that stands at a place has a value
pub there : (name : List ℕ) (list : List Attribute) (i : ℕ) → is_named name (slice_get list i) ≡ true → is_some (value_of list name) ≡ true
there name [] zero is = absurd (true≢false (sym is))
there name [] (suc i) is = absurd (true≢false (sym is))
there name (a ∷ list) zero is = ap (λ b. is_some (cond b (Some a.value) (value_of list name))) is
there name (a ∷ list) (suc i) is = more (bytes_eq name a.name) a.value (value_of list name) (there name list i is)

module _ {A : Type 0} where
  abbrev pub by_items : Vec ℕ A → Vec ℕ A → Ordering
  by_items x y = slice_cmp nat_cmp x.items y.items

  abbrev pub is_key : List ℕ → Vec ℕ A → Bool
  is_key name k = is_eq (slice_cmp nat_cmp name k.items)

  pub by-order : (name : List ℕ) (es : List (Vec ℕ A × ℕ)) → lookup (is_key name) es ≡ number_of es name
  by-order name [] = refl
  by-order name (e ∷ es) =
      ap (λ b. cond b (Some e.1) (lookup (is_key name) es)) (is_eq-slice_cmp name e.0.items)
      ∙ ap (cond (bytes_eq name e.0.items) (Some e.1)) (by-order name es)

  -- a name without a number is no name of the list
  pub unnumbered : (name : List ℕ) (es : List (Vec ℕ A × ℕ)) (list : List Attribute) → IsNumbered es (names_of list) → number_of es name ≡ None → value_of list name ≡ None
  unnumbered name es [] all none = refl
  unnumbered name es (a ∷ list) all none = by_test (bytes_eq name a.name) refl (unnumbered name es list all.1 none)
    where
      by_test : (b : Bool) → bytes_eq name a.name ≡ b → value_of list name ≡ None → cond b (Some a.value) (value_of list name) ≡ None
      by_test true is further = absurd (true≢false (sym all.0 ∙ ap (λ n. is_some (number_of es n)) (sym (same-name name a.name is)) ∙ ap is_some none))
      by_test false is further = further

  kept : (n : List ℕ) (key : Vec ℕ A) (v : ℕ) (es : List (Vec ℕ A × ℕ)) → is_some (number_of es n) ≡ true → is_some (number_of (insert_entry by_items es key v) n) ≡ true
  kept n key v [] h = absurd (true≢false (sym h))
  kept n key v (e ∷ es) h = by_test (by_items key e.0) (kept n key v es)
    where
      by_test : (r : Ordering) → (is_some (number_of es n) ≡ true → is_some (number_of (insert_entry by_items es key v) n) ≡ true) → is_some (number_of (match_ordering r ((key, v) ∷ e ∷ es) ((e.0, v) ∷ es) (e ∷ insert_entry by_items es key v)) n) ≡ true
      by_test Less further = more (bytes_eq n key.items) v (number_of (e ∷ es) n) h
      by_test Equal further = either (bytes_eq n e.0.items) e.1 v (number_of es n) (number_of es n) h (λ k. k)
      by_test Greater further = either (bytes_eq n e.0.items) e.1 e.1 (number_of es n) (number_of (insert_entry by_items es key v) n) h further

  own-number : (key : Vec ℕ A) (v : ℕ) (es : List (Vec ℕ A × ℕ)) → is_some (number_of (insert_entry by_items es key v) key.items) ≡ true
  own-number key v [] = ap (λ b. is_some (cond b (Some v) None)) (name-is key.items)
  own-number key v (e ∷ es) = by_test (by_items key e.0) refl (own-number key v es)
    where
      by_test : (r : Ordering) → by_items key e.0 ≡ r → is_some (number_of (insert_entry by_items es key v) key.items) ≡ true → is_some (number_of (match_ordering r ((key, v) ∷ e ∷ es) ((e.0, v) ∷ es) (e ∷ insert_entry by_items es key v)) key.items) ≡ true
      by_test Less is further = ap (λ b. is_some (cond b (Some v) (number_of (e ∷ es) key.items))) (name-is key.items)
      by_test Equal is further = ap (λ b. is_some (cond b (Some v) (number_of es key.items))) (sym (is_eq-slice_cmp key.items e.0.items) ∙ ap is_eq is)
      by_test Greater is further = more (bytes_eq key.items e.0.items) e.1 (number_of (insert_entry by_items es key v) key.items) further

  left : (name n : List ℕ) (es : List (Vec ℕ A × ℕ)) → bytes_eq name n ≡ false → is_some (number_of es n) ≡ true → is_some (number_of (remove_entry (is_key name) es) n) ≡ true
  left name n [] other h = absurd (true≢false (sym h))
  left name n (e ∷ es) other h = by_test (is_key name e.0) refl (left name n es other)
    where
      by_test : (b : Bool) → is_key name e.0 ≡ b → (is_some (number_of es n) ≡ true → is_some (number_of (remove_entry (is_key name) es) n) ≡ true) → is_some (number_of (cond b es (e ∷ remove_entry (is_key name) es)) n) ≡ true
      by_test true is further =
          let same : name ≡ e.0.items = same-name name e.0.items (sym (is_eq-slice_cmp name e.0.items) ∙ is) in
          let apart : bytes_eq n e.0.items ≡ false = turned e.0.items n (subst (λ x. bytes_eq x n ≡ false) same other) in
          sym (ap (λ b. is_some (cond b (Some e.1) (number_of es n))) apart) ∙ h
      by_test false is further = either (bytes_eq n e.0.items) e.1 e.1 (number_of es n) (number_of (remove_entry (is_key name) es) n) h further

  pub all-kept : (es : List (Vec ℕ A × ℕ)) (key : Vec ℕ A) (v : ℕ) (names : List (List ℕ)) → IsNumbered es names → IsNumbered (insert_entry by_items es key v) names
  all-kept es key v [] all = tt
  all-kept es key v (n ∷ names) all = (kept n key v es all.0, all-kept es key v names all.1)

  pub all-left : (es : List (Vec ℕ A × ℕ)) (name : List ℕ) (names : List (List ℕ)) → AllByRecursion (λ n. bytes_eq name n ≡ false) names → IsNumbered es names → IsNumbered (remove_entry (is_key name) es) names
  all-left es name [] apart all = tt
  all-left es name (n ∷ names) apart all = (left name n es apart.0 all.0, all-left es name names apart.1 all.1)

  -- one name more
  pub own-known : (es new : List (Vec ℕ A × ℕ)) (key : Vec ℕ A) (v : ℕ) (name : List ℕ) → new ≡ insert_entry by_items es key v → key.items ≡ name → is_some (number_of new name) ≡ true
  own-known es new key v name is named =
      subst (λ n. is_some (number_of new n) ≡ true) named (subst (λ list. is_some (number_of list key.items) ≡ true) (sym is) (own-number key v es))

  pub next-known : (es new : List (Vec ℕ A × ℕ)) (key : Vec ℕ A) (v : ℕ) (rows : List (ℕ × Attribute)) (i n : ℕ) (a : Attribute) → new ≡ insert_entry by_items es key v → key.items ≡ a.name → slice_get rows i ≡ Some (n, a)
      → IsNumbered es (names_of (values_of (take i rows))) → IsNumbered new (names_of (values_of (take (i + 1) rows)))
  next-known es new key v rows i n a is named at all =
      let before : IsNumbered new (names_of (values_of (take i rows))) = subst (λ list. IsNumbered list (names_of (values_of (take i rows)))) (sym is) (all-kept es key v (names_of (values_of (take i rows))) all) in
      let next : i + 1 ≡ suc i = omega arith in
      subst (λ m. IsNumbered new (names_of (values_of (take m rows)))) (sym next) (all-next (λ name. is_some (number_of new name) ≡ true) rows i n a at before (own-known es new key v a.name is named))

-- ---- a whole list that changes

module _ {A B : Type 0} where
  known-push : (numbers : Option (Box (BTreeMap (Vec ℕ A) ℕ) B)) (list : List Attribute) (a : Attribute) → IsKnown numbers (names_of list) → IsKnown numbers (a.name ∷ []) → IsKnown numbers (names_of (list ++ a ∷ []))
  known-push None list a known own = tt
  known-push (Some b) list a known own = all-push (λ name. is_some (number_of b.value.entries name) ≡ true) list a known own.0

  known-at : (numbers : Option (Box (BTreeMap (Vec ℕ A) ℕ) B)) (list : List Attribute) (i : ℕ) (name value : List ℕ) → is_named name (slice_get list i) ≡ true → IsKnown numbers (names_of list) → IsKnown numbers (names_of (set_in list name value))
  known-at None list i name value is known = tt
  known-at (Some b) list i name value is known =
      let P : List ℕ → Type 0 = λ n. is_some (number_of b.value.entries n) ≡ true in
      all-set P list name value known (all-at P list i name is known)

  known-unset : (numbers : Option (Box (BTreeMap (Vec ℕ A) ℕ) B)) (list : List Attribute) (name : List ℕ) → IsKnown numbers (names_of list) → IsKnown numbers (names_of (unset_in list name))
  known-unset None list name known = tt
  known-unset (Some b) list name known = all-unset (λ n. is_some (number_of b.value.entries n) ≡ true) list name known

  pub listing-added : (rows new : List (ℕ × Attribute)) (next : ℕ) (numbers : Option (Box (BTreeMap (Vec ℕ A) ℕ) B)) (name value : List ℕ) → new ≡ rows ++ (next, record { name = name; value = value }) ∷ [] → value_of (values_of rows) name ≡ None
      → IsDistinctNames (values_of rows) → IsAbove next rows → IsKnown numbers (names_of (values_of rows)) → IsKnown numbers (name ∷ []) → IsListing new (next + 1) numbers
  listing-added rows new next numbers name value is none distinct above known own =
      let a : Attribute = record { name = name; value = value } in
      subst (λ es. IsListing es (next + 1) numbers) (sym is) (
        subst IsDistinctNames (sym (values-added name value rows next none)) (distinct-set (values_of rows) name value distinct),
        above-push next rows a above,
        subst (λ list. IsKnown numbers (names_of list)) (sym (values-push rows next a)) (known-push numbers (values_of rows) a known own),
      )

  pub listing-written : (rows new : List (ℕ × Attribute)) (next : ℕ) (numbers : Option (Box (BTreeMap (Vec ℕ A) ℕ) B)) (i : ℕ) (name value : List ℕ) → keys_of new ≡ keys_of rows → values_of new ≡ set_in (values_of rows) name value → is_named name (slice_get (values_of rows) i) ≡ true
      → IsListing rows next numbers → IsListing new next numbers
  listing-written rows new next numbers i name value keys values is was = (
    subst IsDistinctNames (sym values) (distinct-set (values_of rows) name value was.0),
    subst (λ ks. AllByRecursion (λ n. n < next) ks) (sym keys) was.1,
    subst (λ list. IsKnown numbers (names_of list)) (sym values) (known-at numbers (values_of rows) i name value is was.2),
  )

  pub listing-taken : (rows new : List (ℕ × Attribute)) (next : ℕ) (numbers left : Option (Box (BTreeMap (Vec ℕ A) ℕ) B)) (i : ℕ) (name : List ℕ) → new ≡ remove rows i → is_named name (slice_get (values_of rows) i) ≡ true
      → ((names : List (List ℕ)) → AllByRecursion (λ n. bytes_eq name n ≡ false) names → IsKnown numbers names → IsKnown left names) → IsListing rows next numbers → IsListing new next left
  listing-taken rows new next numbers left i name taken is unnumbered was =
      let values : values_of new ≡ unset_in (values_of rows) name = ap values_of taken ∙ unset-at name rows i was.0 is in (
        subst IsDistinctNames (sym values) (distinct-unset (values_of rows) name was.0),
        subst (IsAbove next) (sym taken) (above-remove next rows i was.1),
        subst (λ list. IsKnown left (names_of list)) (sym values)
            (unnumbered (names_of (unset_in (values_of rows) name)) (left-apart (values_of rows) name was.0) (known-unset numbers (values_of rows) name was.2)),
      )

pub listing-none : (rows : List (ℕ × Attribute)) → rows ≡ [] → IsDistinctNames (values_of rows) × IsAbove 0 rows × Unit {0}
listing-none rows is = subst (λ es. IsDistinctNames (values_of es) × IsAbove 0 es × Unit {0}) (sym is) (distinct-nothing, tt, tt)
