-- How one who keeps the document alone follows its edits.
use Rattle.std.specs.Prelude.{ℕ, ◌+◌, List, ◌++◌, take, drop}
use Rattle.forest_changes.specs.DomModel.declared.Content.{Content}
use Rattle.forest_changes.specs.DomModel.declared.Content.TheVariants.{Document, Element, Words, Remark}
use Rattle.forest_changes.specs.DomModel.Contents.{with_attributes}
use Rattle.forest_changes.specs.DomModel.Forest.{Forest, without, put_under, link}
use Rattle.forest_changes.specs.DomModel.Revised.{revised}
use Rattle.document_edits.specs.declared.edit.DocumentEdit.{DocumentEdit}
use Rattle.document_edits.specs.declared.edit.DocumentEdit.TheVariants.{Remove, Insert, Move, Replace, SetAttributes}
use Rattle.document_edits.specs.Flat.{grown}

-- a text in which some characters give way to others
abbrev pub spliced : ℕ → ℕ → List ℕ → List ℕ → List ℕ
spliced at taken put old = take at old ++ (put ++ drop (at + taken) old)

-- the content of a Text or Comment node in which they do
abbrev pub with_spliced : ℕ → ℕ → List ℕ → Content → Content
with_spliced at taken put Document = Document
with_spliced at taken put (Element name attributes) = Element name attributes
with_spliced at taken put (Words old) = Words (spliced at taken put old)
with_spliced at taken put (Remark old) = Remark (spliced at taken put old)

-- the document after an edit
unfoldable pub followed : DocumentEdit → Forest Content → Forest Content
followed (Remove n) d = without d n
followed (Insert tree p b) d = put_under d p b (grown tree)
followed (Move n p b) d = link d p b n
followed (Replace n at taken put) d = revised d n (with_spliced at taken put)
followed (SetAttributes n list) d = revised d n (with_attributes list)
