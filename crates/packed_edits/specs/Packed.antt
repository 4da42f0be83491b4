-- Edits of a document as bytes: numbers of eight bytes, the lowest first, and texts in UTF-8, each
-- after the count of its bytes.
use Rattle.std.specs.Prelude.{ℕ, List, [], ◌∷◌, ◌++◌, length, flat_map, Option, Some, None, encode_utf8_all}
use Rattle.std.specs.Int.{w64, to_le_bytes}
use Rattle.document_edits.specs.DomModel.declared.attributes.Attribute.{Attribute}
use Rattle.document_edits.specs.DomModel.declared.Content.{Content}
use Rattle.document_edits.specs.DomModel.declared.Content.TheVariants.{Document, Element, Words, Remark}
use Rattle.document_edits.specs.declared.edit.DocumentEdit.{DocumentEdit}
use Rattle.document_edits.specs.declared.edit.DocumentEdit.TheVariants.{Remove, Insert, Move, Replace, SetAttributes}
use Rattle.document_edits.specs.declared.edit.TreeNode.{TreeNode}

unfoldable pub number : ℕ → List ℕ
number n = to_le_bytes w64 n

unfoldable pub sized : List ℕ → List ℕ
sized bytes = number (length bytes) ++ bytes

-- no node: a label that no node has
unfoldable pub label_or_none : Option ℕ → List ℕ
label_or_none None = number 4294967295
label_or_none (Some label) = number label

unfoldable pub attribute_bytes : Attribute → List ℕ
attribute_bytes a = sized a.name ++ sized (encode_utf8_all a.value)

unfoldable pub each_attribute : List Attribute → List ℕ
each_attribute list = flat_map attribute_bytes list

unfoldable pub attributes_bytes : List Attribute → List ℕ
attributes_bytes list = number (length list) ++ each_attribute list

abbrev pub element_bytes : List ℕ → List Attribute → List ℕ
element_bytes name list = number 1 ++ sized name ++ attributes_bytes list

abbrev pub chars_bytes : ℕ → List ℕ → List ℕ
chars_bytes kind chars = number kind ++ sized (encode_utf8_all chars)

-- the kind, with the number that DOM gives it, and what a node of the kind has
abbrev pub content_bytes : Content → List ℕ
content_bytes Document = number 9
content_bytes (Element name list) = element_bytes name list
content_bytes (Words chars) = chars_bytes 3 chars
content_bytes (Remark chars) = chars_bytes 8 chars

unfoldable pub node_bytes : TreeNode → List ℕ
node_bytes node = number node.level ++ number node.label ++ content_bytes node.content

unfoldable pub each_node : List TreeNode → List ℕ
each_node nodes = flat_map node_bytes nodes

unfoldable pub nodes_bytes : List TreeNode → List ℕ
nodes_bytes nodes = number (length nodes) ++ each_node nodes

abbrev pub removed_bytes : ℕ → List ℕ
removed_bytes node = number 1 ++ number node

abbrev pub inserted_bytes : List TreeNode → ℕ → Option ℕ → List ℕ
inserted_bytes tree parent before =
    number 2 ++ number parent ++ label_or_none before ++ nodes_bytes tree

abbrev pub moved_bytes : ℕ → ℕ → Option ℕ → List ℕ
moved_bytes node parent before =
    number 3 ++ number node ++ number parent ++ label_or_none before

abbrev pub replaced_bytes : ℕ → ℕ → ℕ → List ℕ → List ℕ
replaced_bytes node at taken put =
    number 4 ++ number node ++ number at ++ number taken ++ sized (encode_utf8_all put)

abbrev pub set_bytes : ℕ → List Attribute → List ℕ
set_bytes node list = number 5 ++ number node ++ attributes_bytes list

-- which edit it is, and then what the edit needs
abbrev pub edit_bytes : DocumentEdit → List ℕ
edit_bytes (Remove node) = removed_bytes node
edit_bytes (Insert tree parent before) = inserted_bytes tree parent before
edit_bytes (Move node parent before) = moved_bytes node parent before
edit_bytes (Replace node at taken put) = replaced_bytes node at taken put
edit_bytes (SetAttributes node list) = set_bytes node list

unfoldable pub packed : List DocumentEdit → List ℕ
packed edits = flat_map edit_bytes edits
