-- The HTML text of trees, in bytes (HTML Standard, "Serializing HTML fragments", for the elements
-- that a page may have).
use Rattle.std.specs.Prelude.{ℕ, List, [], ◌++◌, if◌then◌else◌, ◌==◌, codes, encode_utf8, encode_utf8_all}
use Rattle.std.specs.List.{flat_map}
use Rattle.node_paths.specs.DomModel.declared.attributes.Attribute.{Attribute}
use Rattle.node_paths.specs.DomModel.declared.Content.{Content}
use Rattle.node_paths.specs.DomModel.declared.Content.TheVariants.{Document, Element, Words, Remark}
use Rattle.node_paths.specs.DomModel.Forest.{Forest}
use Rattle.node_paths.specs.DomModel.Forest.Forest.{Nil, Tree}
use Rattle.node_paths.specs.DomModel.Places.{kids_in}
use Rattle.html_names.specs.ElementNames.{is_void}

-- a character of a text, and one of an attribute's value
abbrev pub text_char : ℕ → List ℕ
text_char c =
    if c == 38 then codes "&amp;"
    else (if c == 60 then codes "&lt;"
    else (if c == 62 then codes "&gt;"
    else (if c == 160 then codes "&nbsp;"
    else encode_utf8 c)))

abbrev pub value_char : ℕ → List ℕ
value_char c = if c == 34 then codes "&quot;" else text_char c

unfoldable pub text_html : List ℕ → List ℕ
text_html chars = flat_map text_char chars

unfoldable pub value_html : List ℕ → List ℕ
value_html chars = flat_map value_char chars

-- ` name="value"`
abbrev pub attribute_html : Attribute → List ℕ
attribute_html a = codes " " ++ a.name ++ codes "=\"" ++ value_html a.value ++ codes "\""

unfoldable pub attributes_html : List Attribute → List ℕ
attributes_html list = flat_map attribute_html list

abbrev pub start_tag : List ℕ → List Attribute → List ℕ
start_tag name list = codes "<" ++ name ++ attributes_html list ++ codes ">"

-- a void element has no end tag
abbrev pub end_tag : List ℕ → List ℕ
end_tag name = if is_void name then [] else codes "</" ++ name ++ codes ">"

abbrev pub comment_html : List ℕ → List ℕ
comment_html chars = codes "<!--" ++ encode_utf8_all chars ++ codes "-->"

-- what stands before and after the children of a node
abbrev pub opening : Content → List ℕ
opening Document = []
opening (Element name list) = start_tag name list
opening (Words chars) = text_html chars
opening (Remark chars) = comment_html chars

abbrev pub closing : Content → List ℕ
closing Document = []
closing (Element name list) = end_tag name
closing (Words chars) = []
closing (Remark chars) = []

abbrev pub html_of : Forest Content → List ℕ
html_of Nil = []
html_of (Tree label content children rest) =
    opening content ++ html_of children ++ closing content ++ html_of rest

-- the HTML of the document, the first tree: that of its children
abbrev pub document_html : Forest Content → List ℕ
document_html trees = html_of (kids_in trees)
