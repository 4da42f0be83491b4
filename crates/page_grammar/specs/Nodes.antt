-- The labelled nested list that a page stands for.
use Rattle.std.specs.Prelude.{List, map}
use Rattle.std.proofs.Math.Utf8.{encodes}
use Rattle.dom_model.specs.declared.Content.{Content}
use Rattle.dom_model.specs.declared.Content.TheVariants.{Document, Element, Words, Remark}
use Rattle.dom_model.specs.declared.attributes.Attribute.{Attribute}
use Rattle.dom_model.specs.Forest.{Forest}
use Rattle.dom_model.specs.Forest.Forest.{Nil, Tree}
use Rattle.page_grammar.specs.Page as page

-- An attribute's name in UTF-8, as its element keeps it. An element's name is ASCII, and so its own
-- UTF-8.
abbrev pub attribute_of : page.Attribute → Attribute
attribute_of t = record { name = encodes t.name; value = t.value }

abbrev pub attributes_of : List page.Attribute → List Attribute
attributes_of ts = map attribute_of ts

-- the nodes of these children
abbrev pub nodes_of : page.Siblings → Forest Content
nodes_of page.Nil = Nil
nodes_of (page.TextNode l t f) = Tree l (Words t) Nil (nodes_of f)
nodes_of (page.CommentNode l t f) = Tree l (Remark t) Nil (nodes_of f)
nodes_of (page.ElementNode l w ts k f) =
    Tree l (Element w (attributes_of ts)) (nodes_of k) (nodes_of f)

-- the document with these children
abbrev pub document_of : page.Siblings → Forest Content
document_of f = Tree 0 Document (nodes_of f) Nil
