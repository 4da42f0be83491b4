-- Attribute lists, as an element keeps them and as the grammar reads them: there each name isn't among those before it.
use Rattle.std.proofs.Common.{◌≡◌, ℕ, ◌<◌, Bool, true, false, ◌||◌, inl, inr, List, [], ◌∷◌, ◌++◌, length, refl, sym, ap, ◌∙◌, subst}
use Rattle.std.specs.List.{AllByRecursion, IsDistinct}
use Rattle.std.specs.Str.{bytes_eq}
use Rattle.std.proofs.lemmas.Bool.{cases_Bool}
use Rattle.std.proofs.lemmas.List.Folds.{list_any-append}
use Rattle.std.proofs.lemmas.Slice.Eq.{bytes_eq-Decides}
use Rattle.std.proofs.lemmas.Str.{encodes_same}
use Rattle.std.proofs.Math.Utf8.{scalars, encodes}
use Rattle.page_grammar.specs.DomModel.AttributeList.{names_of, IsDistinctNames}
use Rattle.page_grammar.specs.Names.{same_text}
use Rattle.page_grammar.specs.Page.{Attribute, has_attribute}
use Rattle.page_grammar.specs.Nodes.{attributes_of}
use Rattle.page_laws.specs.Writable.{IsKeyChar, IsAttribute}

-- an attribute that the grammar reads
pub record IsKeyed (t : Attribute) : Type 0 where
  pub some : 0 < length t.name
  pub name : AllByRecursion IsKeyChar t.name
  pub value : scalars t.value ≡ true

pub all_keyed : (ts : List Attribute) → AllByRecursion IsAttribute (attributes_of ts) → AllByRecursion IsKeyed ts
all_keyed [] h = tt
all_keyed (t ∷ ts) h =
    let e = encodes_same h.0.chars t.name h.0.utf8 in (
      record {
        some = subst (λ z. 0 < length z) e h.0.some;
        name = subst (λ z. AllByRecursion IsKeyChar z) e h.0.name;
        value = h.0.value;
      },
      all_keyed ts h.1,
    )

pub all_kept : (ts : List Attribute) → AllByRecursion IsKeyed ts → AllByRecursion IsAttribute (attributes_of ts)
all_kept [] h = tt
all_kept (t ∷ ts) h =
    (record { chars = t.name; utf8 = refl; some = h.0.some; name = h.0.name; value = h.0.value }, all_kept ts h.1)

abbrev pub AreNew : List Attribute → List Attribute → Type 0
AreNew seen [] = Unit {0}
AreNew seen (t ∷ ts) = (has_attribute seen t.name ≡ false) × AreNew (seen ++ t ∷ []) ts

-- none of the names is among those of seen
abbrev Apart : List Attribute → List Attribute → Type 0
Apart seen [] = Unit {0}
Apart seen (t ∷ ts) = (has_attribute seen t.name ≡ false) × Apart seen ts

has_more : (seen : List Attribute) (t : Attribute) (k : List ℕ) → has_attribute (seen ++ t ∷ []) k ≡ (has_attribute seen k || (same_text t.name k || false))
has_more seen t k = list_any-append (λ (u : Attribute). same_text u.name k) seen (t ∷ [])

neither : (a b : Bool) → a ≡ false → b ≡ false → (a || (b || false)) ≡ false
neither true b e f = cc
neither false true e f = cc
neither false false e f = refl

both_not : (a b : Bool) → (a || (b || false)) ≡ false → (a ≡ false) × (b ≡ false)
both_not true b e = cc
both_not false true e = cc
both_not false false e = (refl, refl)

chars_differ : (k j : List ℕ) → bytes_eq (encodes k) (encodes j) ≡ false → same_text k j ≡ false
chars_differ k j h =
    elim (cases_Bool (same_text k j)) [
      | inl t ↦
          let e = (bytes_eq-Decides k j).0 t in
          let u = (bytes_eq-Decides (encodes k) (encodes j)).1 (ap encodes e) in
          cc
      | inr f ↦ f
    ]

bytes_differ : (k j : List ℕ) → same_text k j ≡ false → bytes_eq (encodes k) (encodes j) ≡ false
bytes_differ k j h =
    elim (cases_Bool (bytes_eq (encodes k) (encodes j))) [
      | inl t ↦
          let e = encodes_same k j ((bytes_eq-Decides (encodes k) (encodes j)).0 t) in
          let u = (bytes_eq-Decides k j).1 e in
          cc
      | inr f ↦ f
    ]

-- no name of the list is that of t
abbrev Without : Attribute → List Attribute → Type 0
Without t ts = AllByRecursion (λ y. bytes_eq (encodes t.name) y ≡ false) (names_of (attributes_of ts))

apart_more : (seen : List Attribute) (t : Attribute) (ts : List Attribute) → Apart seen ts → Without t ts → Apart (seen ++ t ∷ []) ts
apart_more seen t [] h k = tt
apart_more seen t (u ∷ ts) h k =
    (has_more seen t u.name ∙ neither (has_attribute seen u.name) (same_text t.name u.name) h.0 (chars_differ t.name u.name k.0), apart_more seen t ts h.1 k.1)

new_after : (seen ts : List Attribute) → Apart seen ts → IsDistinctNames (attributes_of ts) → AreNew seen ts
unfolding IsDistinct
new_after seen [] h k = tt
new_after seen (t ∷ ts) h k = (h.0, new_after (seen ++ t ∷ []) ts (apart_more seen t ts h.1 k.0) k.1)

apart_nothing : (ts : List Attribute) → Apart [] ts
apart_nothing [] = tt
apart_nothing (t ∷ ts) = (refl, apart_nothing ts)

pub all_new : (ts : List Attribute) → IsDistinctNames (attributes_of ts) → AreNew [] ts
all_new ts h = new_after [] ts (apart_nothing ts) h

-- the other way

apart_less : (seen : List Attribute) (t : Attribute) (ts : List Attribute) → Apart (seen ++ t ∷ []) ts → Apart seen ts × Without t ts
apart_less seen t [] h = (tt, tt)
apart_less seen t (u ∷ ts) h =
    let ih = apart_less seen t ts h.1 in
    let two = both_not (has_attribute seen u.name) (same_text t.name u.name) (sym (has_more seen t u.name) ∙ h.0) in
    ((two.0, ih.0), (bytes_differ t.name u.name two.1, ih.1))

distinct_after : (seen ts : List Attribute) → AreNew seen ts → Apart seen ts × IsDistinctNames (attributes_of ts)
unfolding IsDistinct
distinct_after seen [] h = (tt, tt)
distinct_after seen (t ∷ ts) h =
    let ih = distinct_after (seen ++ t ∷ []) ts h.1 in
    let two = apart_less seen t ts ih.0 in
    ((h.0, two.0), (two.1, ih.1))

pub all_distinct : (ts : List Attribute) → AreNew [] ts → IsDistinctNames (attributes_of ts)
all_distinct ts h = (distinct_after [] ts h).1
