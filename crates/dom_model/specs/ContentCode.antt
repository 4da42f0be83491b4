-- How the content of a node is stored.
use Rattle.std.specs.Prelude.{◌≡◌, ℕ, zero, suc, List, [], refl}
use Rattle.std.specs.Coded.{Coded, code_by, coded×, coded_ℕ, coded_list}
use Rattle.dom_model.specs.declared.attributes.Attribute.{Attribute}
use Rattle.dom_model.specs.declared.Content.{Content}
use Rattle.dom_model.specs.declared.Content.TheVariants.{Document, Element, Words, Remark}

abbrev pub attribute_code : Coded Attribute
attribute_code =
    code_by
    (List ℕ × List ℕ)
    (coded× (coded_list coded_ℕ) (coded_list coded_ℕ))
    (λ a. (a.name, a.value))
    (λ p. record { name = p.0; value = p.1 })
    (λ _. refl)

abbrev pub content_parts : Content → ℕ × (List ℕ × List Attribute)
content_parts Document = (0, ([], []))
content_parts (Element name attributes) = (1, (name, attributes))
content_parts (Words chars) = (2, (chars, []))
content_parts (Remark chars) = (3, (chars, []))

abbrev pub content_of_kind : ℕ → List ℕ → List Attribute → Content
content_of_kind zero xs list = Document
content_of_kind (suc zero) xs list = Element xs list
content_of_kind (suc (suc zero)) xs list = Words xs
content_of_kind (suc (suc (suc _))) xs list = Remark xs

abbrev pub content_of_parts : ℕ × (List ℕ × List Attribute) → Content
content_of_parts p = content_of_kind p.0 p.1.0 p.1.1

pub parts-back : (c : Content) → content_of_parts (content_parts c) ≡ c
parts-back Document = refl
parts-back (Element name attributes) = refl
parts-back (Words chars) = refl
parts-back (Remark chars) = refl

abbrev pub content_code : Coded Content
content_code =
    code_by
    (ℕ × (List ℕ × List Attribute))
    (coded× coded_ℕ (coded× (coded_list coded_ℕ) (coded_list attribute_code)))
    content_parts
    content_of_parts
    parts-back
