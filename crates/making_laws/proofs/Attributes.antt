-- Attributes that are known stay so as lists are set and unset.
use Rattle.std.proofs.Common.{◌≡◌, ℕ, zero, suc, true, false, true≢false, List, [], ◌∷◌, Option, Some, None, refl, sym, ap, subst, ◌∙◌, inl, inr, arith}
use Rattle.std.specs.Prelude.{Contains, bytes_eq, unwrap_or}
use Rattle.std.specs.Option.{option_and_then}
use Rattle.std.proofs.lemmas.Bool.{cases_Bool}
use Rattle.std.proofs.lemmas.Slice.Eq.{bytes_eq-Decides}
use Rattle.edit_model.specs.DomModel.declared.attributes.Attribute.{Attribute}
use Rattle.edit_model.specs.DomModel.declared.Content.{Content}
use Rattle.edit_model.specs.DomModel.declared.Content.TheVariants.{Document, Element, Words, Remark}
use Rattle.edit_model.specs.DomModel.AttributeList.{value_of, set_in, unset_in}
use Rattle.edit_model.specs.DomModel.Contents.{attributes_in}
use Rattle.edit_model.specs.DomModel.Forest.{Forest, content_of}
use Rattle.edit_model.specs.Compositions.{attribute_list_of}
use Rattle.inline_value.specs.ForestChanges.Named.{Each}
use Rattle.making_laws.specs.Names.{is_set_name}
use Rattle.making_laws.specs.Known.{Source, IsKnownAttribute, KnowsAll}

-- ---- each of a list, and what a list contains

pub each_contained : {A : Type 0} (P : A → Type 0) (list : List A) → ((a : A) → Contains list a → P a) → Each P list
each_contained P [] h = tt
each_contained P (x ∷ xs) h = (h x (0, omega arith, refl), each_contained P xs (λ a c. h a (suc c.0, (let low = c.1 in omega (arith, low)), c.2)))

pub at_each : {A : Type 0} (P : A → Type 0) (list : List A) (a : A) → Each P list → Contains list a → P a
at_each P [] a h (k, low, e) = absurd (omega (arith, low))
at_each P (x ∷ xs) a h (zero, low, e) = subst P e h.0
at_each P (x ∷ xs) a h (suc k, low, e) = at_each P xs a h.1 (k, omega (arith, low), e)

-- ---- a list set and unset

module _ (f : Forest Content) where
  pub each_set : (list : List Attribute) (name value : List ℕ) → is_set_name name ≡ true → Each (IsKnownAttribute f) list → Each (IsKnownAttribute f) (set_in list name value)
  each_set [] name value set h = (inl set, tt)
  each_set (a ∷ list) name value set h = elim (cases_Bool (bytes_eq name a.name)) [
    | inl t ↦ rw t (inl (subst (λ n. is_set_name n ≡ true) ((bytes_eq-Decides name a.name).0 t) set), h.1)
    | inr t ↦ rw t (h.0, each_set list name value set h.1)
  ]

  pub each_unset : (list : List Attribute) (name : List ℕ) → Each (IsKnownAttribute f) list → Each (IsKnownAttribute f) (unset_in list name)
  each_unset [] name h = tt
  each_unset (a ∷ list) name h = elim (cases_Bool (bytes_eq name a.name)) [
    | inl t ↦ rw t h.1
    | inr t ↦ rw t (h.0, each_unset list name h.1)
  ]

-- the attributes of a node that is known
pub list_known : (source : Source) (g : Forest Content) (l : ℕ) → KnowsAll source g → Each (IsKnownAttribute source.forest) (attribute_list_of g l)
list_known source g l known = by_content (content_of g l) refl
  where
    by_content : (o : Option Content) → content_of g l ≡ o → Each (IsKnownAttribute source.forest) (unwrap_or (option_and_then attributes_in o) [])
    by_content None e = tt
    by_content (Some Document) e = tt
    by_content (Some (Element name list)) e = (known l (Element name list) e).1
    by_content (Some (Words chars)) e = tt
    by_content (Some (Remark chars)) e = tt

-- ---- an attribute of a name that commands don't set

-- a list with the attribute has a value of its name
value_there : (list : List Attribute) (a : Attribute) (name : List ℕ) → bytes_eq name a.name ≡ true → Contains list a → value_of list name ≡ None → ⊥
value_there [] a name same (k, low, e) none = absurd (omega (arith, low))
value_there (b ∷ list) a name same (zero, low, e) none =
    let t : bytes_eq name b.name ≡ true = subst (λ (x : Attribute). bytes_eq name x.name ≡ true) (sym e) same in
    let none' = rw t at none in
    cc
value_there (b ∷ list) a name same (suc k, low, e) none = elim (cases_Bool (bytes_eq name b.name)) [
  | inl t ↦ (let none' = rw t at none in cc)
  | inr t ↦ (let none' = rw t at none in value_there list a name same (k, omega (arith, low), e) none')
]

pub no_value : (f : Forest Content) (name : List ℕ) (list : List Attribute) → is_set_name name ≡ false → ((l : ℕ) → value_of (attribute_list_of f l) name ≡ None)
    → Each (IsKnownAttribute f) list → value_of list name ≡ None
no_value f name [] off without h = refl
no_value f name (a ∷ list) off without h = elim (cases_Bool (bytes_eq name a.name)) [
  | inr t ↦ rw t (no_value f name list off without h.1)
  | inl t ↦ absurd (elim h.0 [
    | inl set ↦ true≢false (sym (subst (λ n. is_set_name n ≡ true) (sym ((bytes_eq-Decides name a.name).0 t)) set) ∙ off)
    | inr (l, own, at, there) ↦ value_there own a name t there (sym (ap (λ (o : Option (List Attribute)). value_of (unwrap_or o []) name) at) ∙ without l)
  ])
]
