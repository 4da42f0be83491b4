-- What the content of a node tells.
use Rattle.std.specs.Prelude.{◌≡◌, ◌↔◌, ◌^◌, ℕ, ◌<◌, List, [], length, Bool, true, false, Option, Some, None, IfSome, bytes_eq, codes}
use Rattle.std.specs.Option.{option_map_or, option_and_then}
use Rattle.dom_model.specs.declared.attributes.Attribute.{Attribute}
use Rattle.dom_model.specs.declared.Content.{Content}
use Rattle.dom_model.specs.declared.Content.TheVariants.{Document, Element, Words, Remark}
use Rattle.dom_model.specs.AttributeList.{IsDistinctNames}
use Rattle.dom_model.specs.Forest.{Forest, Seen, content_of, children_of}

abbrev pub is_element : Content → Bool
is_element (Element name attributes) = true
is_element _ = false

-- only the Document and elements have children
abbrev pub may_have_children : Content → Bool
may_have_children Document = true
may_have_children (Element name attributes) = true
may_have_children (Words chars) = false
may_have_children (Remark chars) = false

-- the name of an element
abbrev pub name_in : Content → Option (List ℕ)
name_in (Element name attributes) = Some name
name_in _ = None

-- the attribute list of an element
abbrev pub attributes_in : Content → Option (List Attribute)
attributes_in (Element name attributes) = Some attributes
attributes_in _ = None

-- the characters of Words or a Remark
abbrev pub chars_in : Content → Option (List ℕ)
chars_in (Words chars) = Some chars
chars_in (Remark chars) = Some chars
chars_in _ = None

-- how many characters Words or a Remark has
abbrev pub char_length : Content → ℕ
char_length Document = 0
char_length (Element name attributes) = 0
char_length (Words chars) = length chars
char_length (Remark chars) = length chars

-- the characters that Words counts for
abbrev pub words_length : Content → ℕ
words_length (Words chars) = length chars
words_length _ = 0

-- the content of Words or a Remark with other characters, and of an element with other attributes
abbrev pub with_chars : List ℕ → Content → Content
with_chars chars Document = Document
with_chars chars (Element name attributes) = Element name attributes
with_chars chars (Words old) = Words chars
with_chars chars (Remark old) = Remark chars

abbrev pub with_attributes : List Attribute → Content → Content
with_attributes list Document = Document
with_attributes list (Element name attributes) = Element name list
with_attributes list (Words chars) = Words chars
with_attributes list (Remark chars) = Remark chars

-- the same of a label in a forest
abbrev pub name_of : Forest Content → ℕ → Option (List ℕ)
name_of f l = option_and_then name_in (content_of f l)

abbrev pub attributes_of : Forest Content → ℕ → Option (List Attribute)
attributes_of f l = option_and_then attributes_in (content_of f l)

abbrev pub chars_of : Forest Content → ℕ → Option (List ℕ)
chars_of f l = option_and_then chars_in (content_of f l)

-- a node is an element of this name
abbrev pub has_name : Forest Content → ℕ → List ℕ → Bool
has_name f l name = option_map_or (λ own. bytes_eq own name) (name_of f l) false

abbrev pub is_break : Forest Content → ℕ → Bool
is_break f l = has_name f l (codes "br")

abbrev pub is_image : Forest Content → ℕ → Bool
is_image f l = has_name f l (codes "img")

abbrev pub is_element_at : Forest Content → ℕ → Bool
is_element_at f l = option_map_or is_element (content_of f l) false

abbrev pub is_parent_at : Forest Content → ℕ → Bool
is_parent_at f l = option_map_or may_have_children (content_of f l) false

-- whether a node is Words or a Remark
abbrev pub has_chars : Content → Bool
has_chars Document = false
has_chars (Element name attributes) = false
has_chars (Words chars) = true
has_chars (Remark chars) = true

abbrev pub has_chars_at : Forest Content → ℕ → Bool
has_chars_at f l = option_map_or has_chars (content_of f l) false

-- the length of a node: the count of its characters, or of its children
abbrev pub length_in : Content → List ℕ → ℕ
length_in Document kids = length kids
length_in (Element name attributes) kids = length kids
length_in (Words chars) kids = length chars
length_in (Remark chars) kids = length chars

abbrev pub length_of : Forest Content → ℕ → ℕ
length_of f l = option_map_or (λ c. length_in c (children_of f l)) (content_of f l) 0

-- what holds of each node: label 0 alone is the Document, Words and Remarks have no children, their
-- characters can be counted in 32 bits, and no two attributes of an element have the same name
pub record IsNode (l : ℕ) (s : Seen Content) : Type 0 where
  pub document : (s.content ≡ Document) ↔ (l ≡ 0)
  pub leaf : may_have_children s.content ≡ false → s.children ≡ []
  pub short : char_length s.content < 2 ^ 32
  pub names : IfSome (attributes_in s.content) IsDistinctNames
