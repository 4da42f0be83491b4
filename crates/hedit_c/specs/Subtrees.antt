-- What C is told of a node with all that stands below it, and of what is selected.
use Rattle.std.specs.Prelude.{◌≡◌, ℕ, ◌<◌, List, map, encode_utf8_all, Option, None}
use Rattle.std.specs.Option.{option_map, IsSomeAnd}
use Rattle.std.specs.Str.{IsUtf8, chars}
use Rattle.edit_model.specs.DomModel.declared.Content.{Content}
use Rattle.edit_model.specs.DomModel.Forest.{Forest, count_of}
use Rattle.edit_model.specs.LiveRange.declared.places.Point.{Point}
use Rattle.node_texts.specs.Occurrences.{found_in}
use Rattle.node_texts.specs.PlainText.{plain_text}
use Rattle.edit_engine.specs.Editing.{Editing}
use Rattle.edit_engine.specs.SelectedTexts.{selected_html, selected_text}
use Rattle.hedit_c.specs.Calls.{Puts}
use Rattle.hedit_c.specs.declared.editor.subtrees.PointFacts.{PointFacts}
use Rattle.hedit_c.specs.declared.editor.status.Status.{Status}
use Rattle.hedit_c.specs.declared.editor.status.Status.TheVariants.{No, Memory, BadPlace, BadArgument}

-- a text of the node, in a buffer
abbrev pub SubtreeTells : (Forest Content → ℕ → List ℕ) → Status → Editing → (label : ℕ)
    → (old new : List ℕ) → (n : ℕ) → Type 0
SubtreeTells text BadPlace e label old new n =
    (count_of e.state.trees label ≡ 0) × (new ≡ old)
SubtreeTells text Memory e label old new n = (0 < count_of e.state.trees label) × (new ≡ old)
SubtreeTells text status e label old new n =
    (0 < count_of e.state.trees label) × Puts status (text e.state.trees label) old new n

-- the plain text in UTF-8
abbrev pub plain_bytes : Forest Content → ℕ → List ℕ
plain_bytes f label = encode_utf8_all (plain_text f label)

abbrev pub point_facts : Point → PointFacts
point_facts point = record { label = point.label; offset = point.offset }

-- the points at which the characters of a text occur, in a buffer
abbrev pub FindTells : Status → Editing → (label : ℕ) → (text : List ℕ)
    → (old new : List PointFacts) → (n : ℕ) → Type 0
FindTells BadArgument e label text old new n = ¬ (IsUtf8 text) × (new ≡ old)
FindTells BadPlace e label text old new n =
    IsUtf8 text × (count_of e.state.trees label ≡ 0) × (new ≡ old)
FindTells Memory e label text old new n = new ≡ old
FindTells status e label text old new n =
    IsUtf8 text × (0 < count_of e.state.trees label)
    × Puts status (map point_facts (found_in e.state.trees label (chars text))) old new n

-- ---- what is selected

abbrev pub html_selected : Editing → Option (List ℕ)
html_selected e = selected_html e.state

-- in UTF-8
abbrev pub text_selected : Editing → Option (List ℕ)
text_selected e = option_map encode_utf8_all (selected_text e.state)

-- a text of what is selected, in a buffer; none where nothing is
abbrev pub SelectedTells : (Editing → Option (List ℕ)) → Status → Editing → (old new : List ℕ)
    → (n : ℕ) → Type 0
SelectedTells text No e old new n = (e.state.points.selection ≡ None) × (new ≡ old)
SelectedTells text Memory e old new n = new ≡ old
SelectedTells text status e old new n = IsSomeAnd (text e) (λ found. Puts status found old new n)
