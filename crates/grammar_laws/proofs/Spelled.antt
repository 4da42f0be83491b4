-- Changes of a forest keep names and characters of the grammar. They may set the characters of any node,
-- those of a comment too, so that a comment has no `-->` in it isn't asked here.
use Rattle.std.proofs.Common.{ℕ, List, [], length, Option, Some, None, IfSome, refl}
use Rattle.std.specs.Prelude.{unwrap_or}
use Rattle.std.specs.Option.{option_and_then}
use Rattle.edit_model.specs.DomModel.declared.attributes.Attribute.{Attribute}
use Rattle.edit_model.specs.DomModel.declared.Content.{Content}
use Rattle.edit_model.specs.DomModel.declared.Content.TheVariants.{Document, Element, Words, Remark}
use Rattle.edit_model.specs.DomModel.Change.{Change}
use Rattle.edit_model.specs.DomModel.Contents.{chars_in, with_chars, with_attributes}
use Rattle.edit_model.specs.DomModel.Forest.{Forest, content_of}
use Rattle.inline_value.specs.ForestChanges.Change as forest
use Rattle.edit_model.specs.Compositions.{characters_of}
use Rattle.step_text.specs.StepLine.{IsTag}
use Rattle.grammar_laws.specs.Proper.{AllNodes, IsText, IsList, IsProper, IsProperChange}
use Rattle.grammar_laws.proofs.Nodes.{node_at, nodes_also, nodes_linked, nodes_unlinked, nodes_revised}
use Rattle.grammar_laws.proofs.Texts.{text_spliced}

abbrev pub IsSpelled : Content → Type 0
IsSpelled Document = Unit {0}
IsSpelled (Element name attributes) = IsTag name attributes
IsSpelled (Words chars) = IsText chars
IsSpelled (Remark chars) = IsText chars

proper_spelled : (c : Content) → IsProper c → IsSpelled c
proper_spelled Document h = tt
proper_spelled (Element name attributes) h = h.0
proper_spelled (Words chars) h = h
proper_spelled (Remark chars) h = h.0

pub nodes_spelled : (f : Forest Content) → AllNodes IsProper f → AllNodes IsSpelled f
nodes_spelled f h = nodes_also IsProper IsSpelled proper_spelled f h

chars_spelled : (f : Forest Content) → AllNodes IsSpelled f → (l : ℕ) → IsText (characters_of f l)
chars_spelled f h l = by_content (content_of f l) (node_at IsSpelled f l h)
  where
    by_content : (o : Option Content) → IfSome o IsSpelled → IsText (unwrap_or (option_and_then chars_in o) [])
    by_content None k = refl
    by_content (Some Document) k = refl
    by_content (Some (Element name list)) k = refl
    by_content (Some (Words chars)) k = k
    by_content (Some (Remark chars)) k = k

chars_put : (words : List ℕ) → IsText words → (c : Content) → IsSpelled c → IsSpelled (with_chars words c)
chars_put words own Document h = tt
chars_put words own (Element name list) h = h
chars_put words own (Words chars) h = own
chars_put words own (Remark chars) h = own

list_put : (list : List Attribute) → IsList list → (c : Content) → IsSpelled c → IsSpelled (with_attributes list c)
list_put list own Document h = tt
list_put list own (Element name old) h = (h.0, own.0, own.1)
list_put list own (Words chars) h = h
list_put list own (Remark chars) h = h

pub splice_text : (f : Forest Content) (n at count : ℕ) (put : List ℕ) → IsText put → AllNodes IsSpelled f → IsText (forest.spliced_at f n at count put)
splice_text f n at count put h k = text_spliced _ at count put (chars_spelled f k n) h

pub nodes_applied : (x : Change) (f : Forest Content) → IsProperChange x → AllNodes IsSpelled f → AllNodes IsSpelled (forest.applied x f)
unfolding forest.applied
nodes_applied (forest.Remove n) f h k = nodes_unlinked IsSpelled f n k
nodes_applied (forest.Insert n p b) f h k = nodes_linked IsSpelled f p b n k
nodes_applied (forest.Move n p b) f h k = nodes_linked IsSpelled _ p b n (nodes_unlinked IsSpelled f n k)
nodes_applied (forest.SetText n words) f h k = nodes_revised IsSpelled f n (with_chars words) (chars_put words h) k
nodes_applied (forest.Splice n at rest taken put) f h k =
    (let own = splice_text f n at (length taken) put h k in nodes_revised IsSpelled f n (with_chars (forest.spliced_at f n at (length taken) put)) (chars_put _ own) k)
nodes_applied (forest.SetAttributes n list) f h k = nodes_revised IsSpelled f n (with_attributes list) (list_put list h) k
