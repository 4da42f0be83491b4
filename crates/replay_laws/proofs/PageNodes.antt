-- The nodes of a page that is read are of the grammar.
use Rattle.std.proofs.Common.{◌≡◌, ℕ, pred, ◌<◌, Bool, true, false, List, [], ◌∷◌, length, refl, sym, ap, subst, ◌∙◌, arith}
use Rattle.std.specs.Prelude.{◌&&◌, nat_lt}
use Rattle.std.specs.List.{AllByRecursion, list_all}
use Rattle.std.specs.Str.{IsUtf8, is_utf8, chars}
use Rattle.std.proofs.Math.Utf8.{scalar, scalars}
use Rattle.std.proofs.lemmas.Bool.Decides.{nat_tests, Decides-eqb}
use Rattle.std.proofs.lemmas.Str.{chars-nil, chars-encodes, is_utf8-from_IsUtf8}
use Rattle.edit_model.specs.DomModel.declared.Content.{Content}
use Rattle.edit_model.specs.DomModel.declared.Content.TheVariants.{Document, Element, Words, Remark}
use Rattle.edit_model.specs.DomModel.declared.attributes.Attribute.{Attribute}
use Rattle.edit_model.specs.DomModel.Forest.{Forest}
use Rattle.edit_model.specs.DomModel.Forest.Forest.{Nil, Tree}
use Rattle.step_text.specs.PageGrammar.Bytes.{PageBytes}
use Rattle.step_text.specs.PageGrammar.Chars.{is_letter, is_name_char, is_attribute_name_char, lower}
use Rattle.step_text.specs.PageGrammar.Nodes.{nodes_of, document_of}
use Rattle.step_text.specs.PageGrammar.Page.{Siblings}
use Rattle.page_laws.specs.Writable.{IsNameChar, IsElementName, IsKeyChar, IsAttribute, IsWritableNode, IsWritable}
use Rattle.page_laws.proofs.ReadBack.{page_tree}
use Rattle.step_text.specs.StepLine.{is_lowered, is_element_name, is_attribute_text, is_attribute_name, AreAttributes}
use Rattle.grammar_laws.specs.Proper.{AllNodes, IsProper}

both : (a b : Bool) → a ≡ true → b ≡ true → (a && b) ≡ true
both true b h g = g
both false b h g = h

lowered : (c : ℕ) → lower c ≡ c → is_lowered c ≡ true
lowered c e = (Decides-eqb (lower c) c).1 e

name_rest : (chars : List ℕ) → AllByRecursion IsNameChar chars → list_all (λ c. is_name_char c && is_lowered c) chars ≡ true
name_rest [] h = refl
name_rest (c ∷ chars) h = both (is_name_char c && is_lowered c) _ (both (is_name_char c) (is_lowered c) h.0.0 (lowered c h.0.1)) (name_rest chars h.1)

element_name : (name : List ℕ) → IsElementName name → is_element_name name ≡ true
unfolding is_element_name
element_name [] h = absurd h
element_name (c ∷ chars) h = both (is_letter c && is_lowered c) _ (both (is_letter c) (is_lowered c) h.0 (lowered c h.1)) (name_rest chars h.2)

keys : (chars : List ℕ) → AllByRecursion IsKeyChar chars → list_all (λ c. is_attribute_name_char c && is_lowered c) chars ≡ true
keys [] h = refl
keys (c ∷ chars) h = both (is_attribute_name_char c && is_lowered c) _ (both (is_attribute_name_char c) (is_lowered c) h.0.0 (lowered c h.0.1)) (keys chars h.1)

key_scalars : (chars : List ℕ) → AllByRecursion IsKeyChar chars → scalars chars ≡ true
key_scalars [] h = refl
key_scalars (c ∷ chars) h = both (scalar c) (scalars chars) h.0.2 (key_scalars chars h.1)

-- characters take bytes
some_bytes : (bytes cs : List ℕ) → chars bytes ≡ cs → 0 < length cs → nat_lt 0 (length bytes) ≡ true
some_bytes [] cs e some = absurd (
    let none : length cs ≡ 0 = ap length (sym e ∙ chars-nil) in
    omega (arith, some, none))
some_bytes (b ∷ bytes) cs e some = grind (arith, nat_tests)

attribute_name : (a : Attribute) → IsAttribute a → is_attribute_name a.name ≡ true
unfolding is_attribute_name
attribute_name a h =
    let valid = key_scalars h.chars h.name in
    let spelled : chars a.name ≡ h.chars = ap chars (sym h.utf8) ∙ chars-encodes h.chars valid in
    let utf8 : IsUtf8 a.name = (h.chars, (valid, h.utf8)) in
    let keyed : list_all (λ c. is_attribute_name_char c && is_lowered c) (chars a.name) ≡ true = subst (λ (cs : List ℕ). list_all (λ c. is_attribute_name_char c && is_lowered c) cs ≡ true) (sym spelled) (keys h.chars h.name) in
    both (is_utf8 a.name) (is_attribute_text a.name) (is_utf8-from_IsUtf8 a.name utf8) (both (nat_lt 0 (length a.name)) _ (some_bytes a.name h.chars spelled h.some) keyed)

attributes_named : (list : List Attribute) → AllByRecursion IsAttribute list → AreAttributes list
attributes_named [] h = tt
attributes_named (a ∷ list) h = (attribute_name a h.0, h.0.value, attributes_named list h.1)

node_proper : (c : Content) (ks : Forest Content) → IsWritableNode c ks → IsProper c
node_proper Document ks h = tt
node_proper (Element name list) ks h = ((element_name name h.name, attributes_named list h.attributes, h.distinct), h.supported)
node_proper (Words text) ks h = h.0
node_proper (Remark text) ks h = (h.0, h.1)

nodes_proper : (d : ℕ) (f : Forest Content) → IsWritable d f → AllNodes IsProper f
nodes_proper d Nil h = tt
nodes_proper d (Tree l c ks rest) h = (node_proper c ks h.1, nodes_proper (pred d) ks h.2, nodes_proper d rest h.3)

pub page_proper : (d c : ℕ) (bytes : List ℕ) (children : Siblings) → PageBytes d c bytes children → AllNodes IsProper (document_of children)
page_proper d c bytes children h = (tt, nodes_proper d (nodes_of children) (page_tree d c bytes children h).writable, tt)
