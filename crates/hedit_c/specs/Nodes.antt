-- What C is told of the nodes of an editor's document, of its selection, and of its numbers.
use Rattle.std.specs.Prelude.{◌≡◌, ℕ, ◌<◌, List, [], length, encode_utf8_all, slice_get, Option, Some, None, IsSome, unwrap_or}
use Rattle.std.specs.Option.{option_map_or, IsSomeAnd}
use Rattle.edit_model.specs.DomModel.declared.Content.{Content}
use Rattle.edit_model.specs.DomModel.declared.Content.TheVariants.{Document, Element, Words, Remark}
use Rattle.edit_model.specs.DomModel.declared.attributes.Attribute.{Attribute}
use Rattle.edit_model.specs.DomModel.Contents.{length_of}
use Rattle.edit_model.specs.DomModel.Document.{node_count, char_count}
use Rattle.edit_model.specs.DomModel.Forest.{Forest, content_of, count_of, parent_of, first_of, last_of, prev_of, next_of}
use Rattle.edit_model.specs.LiveRange.declared.places.Pair.{Pair}
use Rattle.inline_value.specs.NodePaths.Paths.{label_at}
use Rattle.inline_value.specs.EditDoc.Whole.{first_edits}
use Rattle.edit_engine.specs.Editing.{Editing}
use Rattle.hedit_c.specs.Calls.{Puts}
use Rattle.hedit_c.specs.declared.editor.nodes.NodeFacts.{NodeFacts}
use Rattle.hedit_c.specs.declared.editor.nodes.SelectionFacts.{SelectionFacts}
use Rattle.hedit_c.specs.declared.editor.nodes.NumberFacts.{NumberFacts}
use Rattle.hedit_c.specs.declared.editor.status.Status.{Status}
use Rattle.hedit_c.specs.declared.editor.status.Status.TheVariants.{Done, No, Memory, BadPlace}

-- ---- a node, by its label

-- the number of a label, and the greatest number where there is no node
abbrev pub label_number : Option ℕ → ℕ
label_number label = unwrap_or label 4294967295

-- as DOM numbers the types of nodes
abbrev pub node_type : Content → ℕ
node_type (Element name attributes) = 1
node_type (Words chars) = 3
node_type (Remark chars) = 8
node_type Document = 9

abbrev pub facts_of : Forest Content → ℕ → NodeFacts
facts_of f l = record {
  kind = option_map_or node_type (content_of f l) 0;
  length = length_of f l;
  parent = label_number (parent_of f l);
  first_child = label_number (first_of f l);
  last_child = label_number (last_of f l);
  previous = label_number (prev_of f l);
  next = label_number (next_of f l);
}

abbrev pub NodeTells : Status → Editing → (label : ℕ) → (old new : NodeFacts) → Type 0
NodeTells Done e label old new =
    (0 < count_of e.state.trees label) × (new ≡ facts_of e.state.trees label)
NodeTells BadPlace e label old new = (count_of e.state.trees label ≡ 0) × (new ≡ old)
NodeTells status e label old new = ⊥

abbrev pub LabelTells : Status → Editing → (path : List ℕ) → (old new : ℕ) → Type 0
LabelTells Done e path old new = label_at e.state.trees path ≡ Some new
LabelTells BadPlace e path old new = (label_at e.state.trees path ≡ None) × (new ≡ old)
LabelTells Memory e path old new = new ≡ old
LabelTells status e path old new = ⊥

-- the path of the node, in a buffer
abbrev pub PathTells : Status → Editing → (label : ℕ) → (old new : List ℕ) → (n : ℕ) → Type 0
PathTells BadPlace e label old new n = (count_of e.state.trees label ≡ 0) × (new ≡ old)
PathTells Memory e label old new n = (0 < count_of e.state.trees label) × (new ≡ old)
PathTells status e label old new n =
    (path : List ℕ) × (label_at e.state.trees path ≡ Some label) × Puts status path old new n

-- ---- the texts of a node: the name of an element, and the characters of a text or a comment

abbrev pub name_text : Content → List ℕ
name_text (Element name attributes) = name
name_text content = []

abbrev pub value_text : Content → List ℕ
value_text (Words chars) = encode_utf8_all chars
value_text (Remark chars) = encode_utf8_all chars
value_text content = []

-- a text of the node, in a buffer
abbrev pub TextTells : (Content → List ℕ) → Status → Editing → (label : ℕ) → (old new : List ℕ)
    → (n : ℕ) → Type 0
TextTells text BadPlace e label old new n = (count_of e.state.trees label ≡ 0) × (new ≡ old)
TextTells text Memory e label old new n = (0 < count_of e.state.trees label) × (new ≡ old)
TextTells text status e label old new n =
    IsSomeAnd (content_of e.state.trees label) (λ c. Puts status (text c) old new n)

-- the name, for which no memory is asked
abbrev pub NameTells : Status → Editing → (label : ℕ) → (old new : List ℕ) → (n : ℕ) → Type 0
NameTells Memory e label old new n = ⊥
NameTells status e label old new n = TextTells name_text status e label old new n

-- ---- the attributes of a node, in their order

abbrev pub attributes_in : Content → List Attribute
attributes_in (Element name attributes) = attributes
attributes_in content = []

abbrev pub attribute_name : Attribute → List ℕ
attribute_name attribute = attribute.name

abbrev pub attribute_value : Attribute → List ℕ
attribute_value attribute = encode_utf8_all attribute.value

-- a text of the attribute at a place of the list, in a buffer; none where there are no more
abbrev pub AttributeTells : (Attribute → List ℕ) → Status → Editing → (label place : ℕ)
    → (old new : List ℕ) → (n : ℕ) → Type 0
AttributeTells text BadPlace e label place old new n =
    (count_of e.state.trees label ≡ 0) × (new ≡ old)
AttributeTells text Memory e label place old new n =
    IsSomeAnd (content_of e.state.trees label) (λ c. IsSome (slice_get (attributes_in c) place))
    × (new ≡ old)
AttributeTells text No e label place old new n =
    IsSomeAnd (content_of e.state.trees label) (λ c. slice_get (attributes_in c) place ≡ None)
    × (new ≡ old)
AttributeTells text status e label place old new n =
    IsSomeAnd (content_of e.state.trees label) (λ c.
    IsSomeAnd (slice_get (attributes_in c) place) (λ a. Puts status (text a) old new n))

-- its name, for which no memory is asked
abbrev pub AttributeNameTells : Status → Editing → (label place : ℕ) → (old new : List ℕ) → (n : ℕ)
    → Type 0
AttributeNameTells Memory e label place old new n = ⊥
AttributeNameTells status e label place old new n =
    AttributeTells attribute_name status e label place old new n

-- ---- the selection, the marks, and the numbers of the document and the history

abbrev pub selection_of : Pair → SelectionFacts
selection_of pair = record {
  anchor = pair.anchor.label;
  anchor_offset = pair.anchor.offset;
  focus = pair.focus.label;
  focus_offset = pair.focus.offset;
}

abbrev pub SelectionTells : Status → Editing → (old new : SelectionFacts) → Type 0
SelectionTells Done e old new =
    IsSomeAnd e.state.points.selection (λ pair. new ≡ selection_of pair)
SelectionTells No e old new = (e.state.points.selection ≡ None) × (new ≡ old)
SelectionTells status e old new = ⊥

-- the name of the mark at a place of their list, in a buffer, and its points; none where there are no
-- more
abbrev pub MarkNameTells : Status → Editing → (place : ℕ) → (old new : List ℕ) → (n : ℕ) → Type 0
MarkNameTells No e place old new n =
    (slice_get e.state.points.marks place ≡ None) × (new ≡ old)
MarkNameTells status e place old new n =
    IsSomeAnd (slice_get e.state.points.marks place) (λ m. Puts status m.0 old new n)

abbrev pub MarkRangeTells : Status → Editing → (place : ℕ) → (old new : SelectionFacts) → Type 0
MarkRangeTells Done e place old new =
    IsSomeAnd (slice_get e.state.points.marks place) (λ m. new ≡ selection_of m.1)
MarkRangeTells No e place old new =
    (slice_get e.state.points.marks place ≡ None) × (new ≡ old)
MarkRangeTells status e place old new = ⊥

abbrev pub numbers_of : Editing → NumberFacts
numbers_of e = record {
  nodes = node_count e.state.trees;
  next_label = e.state.next;
  chars = char_count e.state.trees;
  edits = first_edits e.history.undo;
  undo = length e.history.undo;
  redo = length e.history.redo;
}

abbrev pub NumbersTell : Status → Editing → NumberFacts → Type 0
NumbersTell Done e new = new ≡ numbers_of e
NumbersTell status e new = ⊥
