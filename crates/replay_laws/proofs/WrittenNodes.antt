-- A document of the grammar whose void elements are empty can be written.
use Rattle.std.proofs.Common.{◌≡◌, ℕ, zero, suc, pred, ◌+◌, ◌<◌, ◌≤◌, true, false, true≢false, List, [], ◌∷◌, length, Option, Some, None, refl, sym, ap, subst, inl, inr, arith}
use Rattle.std.specs.Prelude.{◌&&◌, nat_lt}
use Rattle.std.specs.List.{AllByRecursion, list_all}
use Rattle.std.specs.Str.{is_utf8, chars}
use Rattle.std.proofs.Math.Utf8.{encodes, scalars, scalar}
use Rattle.std.proofs.lemmas.Bool.{and_parts}
use Rattle.std.proofs.lemmas.Bool.Decides.{nat_tests, Decides-eqb}
use Rattle.std.proofs.lemmas.Str.{IsUtf8-from_is_utf8, encodes-chars, scalars-chars}
use Rattle.edit_model.specs.DomModel.declared.attributes.Attribute.{Attribute}
use Rattle.edit_model.specs.DomModel.declared.Content.{Content}
use Rattle.edit_model.specs.DomModel.declared.Content.TheVariants.{Document, Element, Words, Remark}
use Rattle.edit_model.specs.DomModel.Contents.{IsNode, may_have_children}
use Rattle.edit_model.specs.DomModel.Document.{page_depth}
use Rattle.edit_model.specs.DomModel.Forest.{Forest, Seen, count_of, tops}
use Rattle.edit_model.specs.DomModel.Forest.Forest.{Nil, Tree}
use Rattle.edit_model.specs.DomModel.Places.{levels, kids_in}
use Rattle.edit_model.proofs.DomModel.Stands.{Stands, seek_Stands}
use Rattle.edit_model.specs.Valid.{IsForest}
use Rattle.edit_model.proofs.Documents.{document_shape}
use Rattle.step_text.specs.PageGrammar.Chars.{is_letter, is_name_char, is_attribute_name_char, lower}
use Rattle.page_laws.specs.Writable.{IsNameChar, IsElementName, IsKeyChar, IsAttribute, IsWritableNode, IsWritable}
use Rattle.step_text.specs.StepLine.{is_lowered, is_element_name, is_attribute_text, is_attribute_name, AreAttributes}
use Rattle.grammar_laws.specs.Proper.{AllNodes, IsProper}
use Rattle.replay_laws.specs.ReadBack.{is_void_element, VoidsAreEmpty}

-- ---- names

is_low : (c : ℕ) → is_lowered c ≡ true → lower c ≡ c
is_low c e = (Decides-eqb (lower c) c).0 e

name_chars : (cs : List ℕ) → list_all (λ c. is_name_char c && is_lowered c) cs ≡ true → AllByRecursion IsNameChar cs
name_chars [] h = tt
name_chars (c ∷ cs) h =
    let parts = and_parts (is_name_char c && is_lowered c) (list_all (λ c. is_name_char c && is_lowered c) cs) h in
    let own = and_parts (is_name_char c) (is_lowered c) parts.0 in
    ((own.0, is_low c own.1), name_chars cs parts.1)

element_name : (name : List ℕ) → is_element_name name ≡ true → IsElementName name
unfolding is_element_name
element_name [] h = absurd (true≢false (sym h))
element_name (c ∷ cs) h =
    let parts = and_parts (is_letter c && is_lowered c) (list_all (λ c. is_name_char c && is_lowered c) cs) h in
    let own = and_parts (is_letter c) (is_lowered c) parts.0 in
    (own.0, is_low c own.1, name_chars cs parts.1)

key_chars : (cs : List ℕ) → scalars cs ≡ true → list_all (λ c. is_attribute_name_char c && is_lowered c) cs ≡ true → AllByRecursion IsKeyChar cs
key_chars [] s h = tt
key_chars (c ∷ cs) s h =
    let parts = and_parts (is_attribute_name_char c && is_lowered c) (list_all (λ c. is_attribute_name_char c && is_lowered c) cs) h in
    let own = and_parts (is_attribute_name_char c) (is_lowered c) parts.0 in
    let valid = and_parts (scalar c) (scalars cs) s in
    ((own.0, is_low c own.1, valid.0), key_chars cs valid.1 parts.1)

-- bytes are those of some characters
some_chars : (bytes cs : List ℕ) → encodes cs ≡ bytes → 0 < length bytes → 0 < length cs
some_chars bytes [] e some = absurd (
    let none : length bytes ≡ 0 = ap length (sym e) in
    omega (arith, some, none))
some_chars bytes (c ∷ cs) e some = omega arith

attribute : (a : Attribute) → is_attribute_name a.name ≡ true → scalars a.value ≡ true → IsAttribute a
unfolding is_attribute_name
attribute a h value =
    let parts = and_parts (is_utf8 a.name) (is_attribute_text a.name) h in
    let text = and_parts (nat_lt 0 (length a.name)) (list_all (λ c. is_attribute_name_char c && is_lowered c) (chars a.name)) parts.1 in
    let utf8 = IsUtf8-from_is_utf8 a.name parts.0 in
    let some : 0 < length a.name = grind (arith, nat_tests, text.0) in
    record {
      chars = chars a.name;
      utf8 = encodes-chars a.name utf8;
      some = some_chars a.name (chars a.name) (encodes-chars a.name utf8) some;
      name = key_chars (chars a.name) (scalars-chars a.name utf8) text.1;
      value = value;
    }

attributes : (list : List Attribute) → AreAttributes list → AllByRecursion IsAttribute list
attributes [] h = tt
attributes (a ∷ list) h = (attribute a h.0 h.1, attributes list h.2)

-- ---- the form of a document

-- below the Document there is no other, and texts and comments have no children
abbrev AreInner : Forest Content → Type 0
AreInner Nil = Unit {0}
AreInner (Tree l c ks rest) = (c ≡ Document → ⊥) × (may_have_children c ≡ false → ks ≡ Nil) × AreInner ks × AreInner rest

no_tops : (f : Forest Content) → tops f ≡ [] → f ≡ Nil
no_tops Nil e = refl
no_tops (Tree l c ks rest) e = absurd (
    let some : length (l ∷ tops rest) ≡ 0 = ap length e in
    omega (arith, some))

inner : (f : Forest Content) (q : Option ℕ) → ((l : ℕ) (s : Seen Content) → Stands q f l s → IsNode l s) → count_of f 0 ≡ 0 → AreInner f
inner Nil q each none = tt
inner (Tree m c ks rest) q each none =
    let node = each m (record { parent = q; content = c; children = tops ks }) (inl (refl, refl)) in (
      λ is. (
          let first : m ≡ 0 = node.document.0 is in
          let found = subst (λ (n : ℕ). count_of (Tree n c ks rest) 0 ≡ 0) first none in
          absurd (omega (arith, found))),
      λ leaf. no_tops ks (node.leaf leaf),
      inner ks (Some m) (λ l s h. each l s (inr (inl h))) (omega (arith, none)),
      inner rest q (λ l s h. each l s (inr (inr h))) (omega (arith, none)),
    )

-- ---- its nodes

node : (c : Content) (ks : Forest Content) → IsProper c → (c ≡ Document → ⊥) → (may_have_children c ≡ false → ks ≡ Nil) → (is_void_element c ≡ true → ks ≡ Nil) → IsWritableNode c ks
node Document ks h other leaf void = other refl
node (Element name list) ks h other leaf void =
    record { name = element_name name h.0.0; supported = h.1; attributes = attributes list h.0.1; distinct = h.0.2; void = void }
node (Words text) ks h other leaf void = (h, leaf refl)
node (Remark text) ks h other leaf void = (h.0, h.1, leaf refl)

below : (a d : ℕ) → a + 1 ≤ d → a ≤ pred d
below a zero h = absurd (omega (arith, h))
below a (suc d) h = omega (arith, h)

nodes : (d : ℕ) (f : Forest Content) → AllNodes IsProper f → AreInner f → VoidsAreEmpty f → levels f ≤ d → IsWritable d f
nodes d Nil h form voids deep = tt
nodes d (Tree l c ks rest) h form voids deep = (
  omega (arith, deep),
  node c ks h.0 form.0 form.1 voids.0,
  nodes (pred d) ks h.1 form.2 voids.1 (below (levels ks) d (omega (arith, deep))),
  nodes d rest h.2 form.3 voids.2 (omega (arith, deep)),
)

pub kids_written : (d next : ℕ) (f : Forest Content) → IsForest f next → AllNodes IsProper f → VoidsAreEmpty f → page_depth f ≤ d → IsWritable d (kids_in f)
kids_written d next f is =
    let shape = document_shape f next is in
    let c = shape.0 in
    let ks = shape.1 in
    let rest = shape.2 in
    let g : Forest Content = Tree 0 c ks rest in
    let law : IsForest g next = subst (λ (h : Forest Content). IsForest h next) shape.3 is in
    let form : AreInner ks =
    (let once = law.distinct 0 in
    inner ks (Some 0) (λ l s h. law.nodes l s (seek_Stands None g l s (law.distinct l) (inr (inl h)))) (omega (arith, once))) in
    subst (λ (h : Forest Content). AllNodes IsProper h → VoidsAreEmpty h → page_depth h ≤ d → IsWritable d (kids_in h)) (sym shape.3)
    (λ proper voids deep. nodes d ks proper.1 form voids.1 deep)
