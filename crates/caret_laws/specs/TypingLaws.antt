-- The law that inserting a text at a caret adds its characters, together and at one place, and that nothing else comes or goes
-- besides blanks.
use Rattle.std.specs.Prelude.{◌≡◌, ◌≢◌, ◌⊎◌, ◌^◌, ◌<◌, ℕ, suc, ◌+◌, true, false, List, [], ◌∷◌, ◌++◌, length, map, filter, Some}
use Rattle.edit_model.specs.DomModel.Contents.{has_chars_at}
use Rattle.edit_model.specs.DomModel.Editing.{is_host}
use Rattle.edit_model.specs.DomModel.Forest.{IsWithin}
use Rattle.edit_model.specs.LiveRange.declared.places.Point.{Point}
use Rattle.inline_value.specs.NodeTests.CollapsedWhitespace.{is_words}
use Rattle.edit_model.specs.Kept.{Leaf, Letter}
use Rattle.edit_model.specs.State.{State}
use Rattle.edit_model.specs.Confined.{is_inside}
use Rattle.edit_model.specs.History.{begun, document_of}
use Rattle.edit_model.specs.Run.{final}
use Rattle.edit_model.specs.Valid.{IsValid}
use Rattle.inline_value.specs.Overrides.{overrides_of}
use Rattle.delete_core.specs.declared.deletion.TheConstants.Manner.{KEEP_WRAPPERS}
use Rattle.text_insertion.specs.Start.{erase}
use Rattle.text_insertion.specs.Typing.{insert_char_inside, insert_chars, insert_text}
use Rattle.caret_laws.specs.ParagraphOrder.{StandsInNoThing}
use Rattle.caret_laws.specs.SolidOrder.{is_solid, solid_leaves, KeepsOrderUpToBlanks, OneMore, StandsAt, HasRoomFor, HasRoom, BreaksAreEmpty}
use Rattle.caret_laws.specs.Sparing.{SparesOn}

-- the caret stands in no comment
abbrev pub IsNoComment : State → Point → Type 0
IsNoComment s p = has_chars_at s.trees p.label ≡ true → is_words s.trees p.label ≡ true

-- no line feed is among the characters
abbrev pub HasNoBreaks : List ℕ → Type 0
HasNoBreaks [] = Unit {0}
HasNoBreaks (c ∷ cs) = (c ≢ 10) × HasNoBreaks cs

-- From the beginning of a command in a host of the document, with the caret inside it and in no comment,
-- where no override is set, no br has children and each text has room: the characters of a text without
-- line feeds come, but for blanks, in order and together, at one place among the images, the rules and the
-- characters other than tab, LF, CR, space and U+00A0, which all stay, in order.
abbrev pub InsertTextAdds : Type 0
InsertTextAdds =
    (s : State) (h : ℕ) (p : Point) (value : List ℕ) → IsValid s → is_host s.trees h ≡ true
    → IsWithin s.trees 0 h
    → HasRoomFor (suc (length value)) s → length value + 2 < 2 ^ 32 → BreaksAreEmpty s → StandsAt s p
    → is_inside (begun (Some h) false s) p.label ≡ true
    → IsNoComment s p → overrides_of s ≡ [] → HasNoBreaks value
    → (front : List Leaf) × (back : List Leaf)
    × (solid_leaves (document_of s.trees) ≡ front ++ back)
    × (solid_leaves (document_of (final (insert_text value) (begun (Some h) false s)).trees)
    ≡ front ++ (filter is_solid (map Letter value) ++ back))

-- what the steps after the erasing remove bears nothing that is kept
abbrev pub TypingSpares : ℕ → State → Type 0
TypingSpares c s = SparesOn ((insert_char_inside c).by_actions (final (erase KEEP_WRAPPERS) s))

-- So it is with one character other than a line feed, whatever overrides are set and whatever a br holds,
-- where neither restoring them nor the br that gives way to the character takes out anything that is kept.
abbrev pub InsertCharAdds : Type 0
InsertCharAdds =
    (s : State) (h : ℕ) (p : Point) (c : ℕ) → IsValid s → is_host s.trees h ≡ true → IsWithin s.trees 0 h
    → HasRoomFor 2 s → StandsAt s p
    → is_inside (begun (Some h) false s) p.label ≡ true
    → IsNoComment s p → c ≢ 10 → TypingSpares c (begun (Some h) false s)
    → (front : List Leaf) × (back : List Leaf)
    × (solid_leaves (document_of s.trees) ≡ front ++ back)
    × (solid_leaves (document_of (final (insert_text (c ∷ [])) (begun (Some h) false s)).trees)
    ≡ front ++ (filter is_solid (Letter c ∷ []) ++ back))

-- nothing comes, or the character at one place
abbrev pub MayGain : ℕ → List Leaf → List Leaf → Type 0
MayGain c before after = (after ≡ before) ⊎ OneMore (Letter c) before after

-- so it is with each of the characters in turn
abbrev pub MayGainEach : List ℕ → List Leaf → List Leaf → Type 0
MayGainEach [] before after = after ≡ before
MayGainEach (c ∷ cs) before after =
    (between : List Leaf) × MayGain c before between × MayGainEach cs between after

-- At any caret, with any overrides, a text without line feeds brings none but its characters, each at one
-- place, and all else stays, in order, where what the steps after the erasing remove bears nothing that is
-- kept.
abbrev pub InsertTextKeeps : Type 0
InsertTextKeeps =
    (s : State) (h : ℕ) (p : Point) (value : List ℕ) → IsValid s → HasRoomFor (suc (length value)) s
    → length value + 2 < 2 ^ 32 → StandsAt s p → HasNoBreaks value
    → SparesOn ((insert_chars value).by_actions (final (erase KEEP_WRAPPERS) (begun (Some h) false s)))
    → MayGainEach value (solid_leaves (document_of s.trees))
    (solid_leaves (document_of (final (insert_text value) (begun (Some h) false s)).trees))

-- A line feed by itself brings nothing, and all else stays, in order, where the caret stands in no image
-- and no rule, and parting the line takes out nothing that is kept.
abbrev pub InsertLineFeedKeeps : Type 0
InsertLineFeedKeeps =
    (s : State) (h : ℕ) (p : Point) → IsValid s → is_host s.trees h ≡ true → IsWithin s.trees 0 h
    → HasRoom s → StandsAt s p → StandsInNoThing s p.label
    → TypingSpares 10 (begun (Some h) false s)
    → KeepsOrderUpToBlanks s (final (insert_text (10 ∷ [])) (begun (Some h) false s))
