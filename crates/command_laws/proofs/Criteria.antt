-- What meets a criterion that names neither img nor hr bears nothing itself.
use Rattle.std.proofs.Common.{◌≡◌, ℕ, Bool, true, false, ◌&&◌, List, [], ◌∷◌, Option, Some, None, refl, sym, ap, subst, ◌∙◌, inl, inr, true≢false}
use Rattle.std.specs.Option.{option_map_or, option_and_then}
use Rattle.std.specs.Prelude.{codes, bytes_eq}
use Rattle.std.proofs.lemmas.Bool.{cases_Bool}
use Rattle.edit_model.specs.DomModel.declared.Content.{Content}
use Rattle.edit_model.specs.DomModel.declared.Content.TheVariants.{Document, Element, Words, Remark}
use Rattle.edit_model.specs.DomModel.declared.attributes.Attribute.{Attribute}
use Rattle.edit_model.specs.DomModel.Contents.{name_in, has_name, is_break}
use Rattle.edit_model.specs.DomModel.Forest.{content_of}
use Rattle.inline_value.proofs.CssValue.Names.{same-name}
use Rattle.inline_value.specs.NodeStyles.NameClasses.{is_indentation, is_simple_indentation, is_simple_indentation_content, is_indentation_content}
use Rattle.inline_value.specs.NodeStyles.OwnStyles.{is_named}
use Rattle.inline_value.specs.CommandValue.Modifiable.{meets_value, is_simple_modifiable, is_simple_modifiable_content, is_simple_with}
use Rattle.edit_model.specs.State.{State}
use Rattle.edit_model.specs.Kept.{borne_by, is_thing}
use Rattle.edit_laws.specs.MoveLaws.{IsBare}
use Rattle.inline_value.specs.WrapSplit.declared.rule.Criterion.{Criterion}
use Rattle.inline_value.specs.WrapSplit.declared.rule.Criterion.TheVariants.{Never, SameValue, Named, SimpleIndentation, Aligned}
use Rattle.inline_value.specs.WrapSplit.Target.{meets, is_aligned}
use Rattle.command_laws.specs.WrapLaws.{NamesNoThing}

-- ---- an image or a rule meets none

modifiable_img : (list : List Attribute) → is_simple_modifiable_content (Element (codes "img") list) ≡ false
unfolding is_simple_modifiable_content is_simple_with is_named
modifiable_img [] = refl
modifiable_img (a ∷ []) = refl
modifiable_img (a ∷ b ∷ list) = refl

modifiable_hr : (list : List Attribute) → is_simple_modifiable_content (Element (codes "hr") list) ≡ false
unfolding is_simple_modifiable_content is_simple_with is_named
modifiable_hr [] = refl
modifiable_hr (a ∷ []) = refl
modifiable_hr (a ∷ b ∷ list) = refl

indentation_img : (list : List Attribute) → is_simple_indentation_content (Element (codes "img") list) ≡ false
unfolding is_simple_indentation_content is_indentation_content is_named
indentation_img list = refl

indentation_hr : (list : List Attribute) → is_simple_indentation_content (Element (codes "hr") list) ≡ false
unfolding is_simple_indentation_content is_indentation_content is_named
indentation_hr list = refl

indenting_img : (list : List Attribute) → is_indentation_content (Element (codes "img") list) ≡ false
unfolding is_indentation_content is_named
indenting_img list = refl

indenting_hr : (list : List Attribute) → is_indentation_content (Element (codes "hr") list) ≡ false
unfolding is_indentation_content is_named
indenting_hr list = refl

-- what the two elements fail, each of the name of one fails
thing_fails : (test : Content → Bool) → ((list : List Attribute) → test (Element (codes "img") list) ≡ false) → ((list : List Attribute) → test (Element (codes "hr") list) ≡ false)
    → (name : List ℕ) (list : List Attribute) → is_thing name ≡ true → test (Element name list) ≡ false
thing_fails test img hr name list t = elim (cases_Bool (bytes_eq name (codes "img"))) [
  | inl e ↦ subst (λ n. test (Element n list) ≡ false) (sym (same-name name (codes "img") e)) (img list)
  | inr e ↦ (let t' = rw e at t in subst (λ n. test (Element n list) ≡ false) (sym (same-name name (codes "hr") t')) (hr list))
]

-- a name that passes what both names fail is neither
pub no_thing : (test : List ℕ → Bool) → test (codes "img") ≡ false → test (codes "hr") ≡ false → (name : List ℕ) → test name ≡ true → is_thing name ≡ false
no_thing test img hr name h = by_name (bytes_eq name (codes "img")) (bytes_eq name (codes "hr")) refl refl
  where
    by_name : (v w : Bool) → bytes_eq name (codes "img") ≡ v → bytes_eq name (codes "hr") ≡ w → is_thing name ≡ false
    by_name true w e k = absurd (true≢false (sym h ∙ (ap test (same-name name (codes "img") e) ∙ img)))
    by_name false true e k = absurd (true≢false (sym h ∙ (ap test (same-name name (codes "hr") k) ∙ hr)))
    by_name false false e k = rw (e, k) refl

-- ---- what meets one

pub named_bare : (s : State) (l : ℕ) (name : List ℕ) → is_thing name ≡ false → has_name s.trees l name ≡ true → IsBare s l
unfolding borne_by
named_bare s l name plain h Document e = refl
named_bare s l name plain h (Element own list) e =
    let k : bytes_eq own name ≡ true = sym (ap (λ (c : Option Content). option_map_or (λ own. bytes_eq own name) (option_and_then name_in c) false) e) ∙ h in
    rw (ap is_thing (same-name own name k) ∙ plain) refl
named_bare s l name plain h (Words chars) e = absurd (true≢false (sym h ∙ ap (λ (c : Option Content). option_map_or (λ own. bytes_eq own name) (option_and_then name_in c) false) e))
named_bare s l name plain h (Remark chars) e = refl

-- what passes a test that no image, no rule and no text passes
tested_bare : (s : State) (l : ℕ) (test : Content → Bool) → ((name : List ℕ) (list : List Attribute) → is_thing name ≡ true → test (Element name list) ≡ false) → ((chars : List ℕ) → test (Words chars) ≡ false)
    → option_map_or test (content_of s.trees l) false ≡ true → IsBare s l
unfolding borne_by
tested_bare s l test thing text h Document e = refl
tested_bare s l test thing text h (Element name list) e = elim (cases_Bool (is_thing name)) [
  | inl t ↦ absurd (true≢false (sym h ∙ (ap (λ (c : Option Content). option_map_or test c false) e ∙ thing name list t)))
  | inr t ↦ rw t refl
]
tested_bare s l test thing text h (Words chars) e = absurd (true≢false (sym h ∙ (ap (λ (c : Option Content). option_map_or test c false) e ∙ text chars)))
tested_bare s l test thing text h (Remark chars) e = refl

modifiable_text : (chars : List ℕ) → is_simple_modifiable_content (Words chars) ≡ false
unfolding is_simple_modifiable_content
modifiable_text chars = refl

indentation_text : (chars : List ℕ) → is_simple_indentation_content (Words chars) ≡ false
unfolding is_simple_indentation_content is_indentation_content is_named
indentation_text chars = refl

indenting_text : (chars : List ℕ) → is_indentation_content (Words chars) ≡ false
unfolding is_indentation_content is_named
indenting_text chars = refl

pub indentation_bare : (s : State) (l : ℕ) → is_indentation s.trees l ≡ true → IsBare s l
unfolding is_indentation
indentation_bare s l h = tested_bare s l is_indentation_content (thing_fails is_indentation_content indenting_img indenting_hr) indenting_text h

modifiable_br : (list : List Attribute) → is_simple_modifiable_content (Element (codes "br") list) ≡ false
unfolding is_simple_modifiable_content is_simple_with is_named
modifiable_br [] = refl
modifiable_br (a ∷ []) = refl
modifiable_br (a ∷ b ∷ list) = refl

pub modifiable_bare : (s : State) (l : ℕ) → is_simple_modifiable s.trees l ≡ true → IsBare s l
unfolding is_simple_modifiable
modifiable_bare s l h = tested_bare s l is_simple_modifiable_content (thing_fails is_simple_modifiable_content modifiable_img modifiable_hr) modifiable_text h

-- nor is it a br
pub modifiable_no_break : (s : State) (l : ℕ) → is_simple_modifiable s.trees l ≡ true → is_break s.trees l ≡ false
unfolding is_simple_modifiable
modifiable_no_break s l h = by_content (content_of s.trees l) h
  where
    by_content : (o : Option Content) → option_map_or is_simple_modifiable_content o false ≡ true → option_map_or (λ own. bytes_eq own (codes "br")) (option_and_then name_in o) false ≡ false
    by_content None k = refl
    by_content (Some Document) k = refl
    by_content (Some (Element name list)) k = elim (cases_Bool (bytes_eq name (codes "br"))) [
      | inr e ↦ e
      | inl e ↦ absurd (true≢false (sym k ∙ subst (λ n. is_simple_modifiable_content (Element n list) ≡ false) (sym (same-name name (codes "br") e)) (modifiable_br list)))
    ]
    by_content (Some (Words chars)) k = refl
    by_content (Some (Remark chars)) k = refl

pub first_part : (a b : Bool) → (a && b) ≡ true → a ≡ true
first_part true b h = refl
first_part false b h = h

pub second_part : (a b : Bool) → (a && b) ≡ true → b ≡ true
second_part true b h = h
second_part false b h = absurd (true≢false (sym h))

pub meets_bare : (c : Criterion) (s : State) (l : ℕ) → NamesNoThing c → meets c s.trees l ≡ true → IsBare s l
unfolding meets meets_value is_simple_indentation is_aligned
meets_bare Never s l plain h = absurd (true≢false (sym h))
meets_bare (SameValue command value) s l plain h = modifiable_bare s l (first_part (is_simple_modifiable s.trees l) _ (first_part _ _ h))
meets_bare (Named name bare) s l plain h = named_bare s l name plain (first_part (has_name s.trees l name) _ h)
meets_bare SimpleIndentation s l plain h = tested_bare s l is_simple_indentation_content (thing_fails is_simple_indentation_content indentation_img indentation_hr) indentation_text h
meets_bare (Aligned alignment) s l plain h = named_bare s l (codes "div") refl (first_part (has_name s.trees l (codes "div")) _ h)
