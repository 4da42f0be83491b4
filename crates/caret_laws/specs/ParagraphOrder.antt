-- The laws that inserting a paragraph at a caret keeps what the document bears.
use Rattle.std.specs.Prelude.{◌≡◌, ℕ, true, false, [], codes, Some}
use Rattle.edit_model.specs.DomModel.Contents.{has_name, is_break}
use Rattle.edit_model.specs.DomModel.Editing.{is_host}
use Rattle.edit_model.specs.DomModel.Forest.{IsWithin, children_of}
use Rattle.edit_model.specs.LiveRange.declared.places.Point.{Point}
use Rattle.inline_value.specs.NodeStyles.Blocks.{is_block, is_hidden}
use Rattle.inline_value.specs.NodeTests.Visible.{is_boxless}
use Rattle.edit_model.specs.State.{State}
use Rattle.edit_model.specs.History.{begun}
use Rattle.edit_model.specs.Run.{final}
use Rattle.edit_model.specs.Valid.{IsValid}
use Rattle.delete_core.specs.declared.deletion.TheConstants.Manner.{DEFAULT}
use Rattle.text_insertion.specs.Containers.{container_of, is_own_container}
use Rattle.text_insertion.specs.Entries.{is_empty_entry}
use Rattle.text_insertion.specs.Paragraph.{insert_paragraph_inside, insert_paragraph}
use Rattle.text_insertion.specs.Start.{erase}
use Rattle.caret_laws.specs.SolidOrder.{KeepsOrderUpToBlanks, StandsAt, HasRoom}
use Rattle.caret_laws.specs.Sparing.{SparesOn}
use Rattle.caret_laws.specs.TailLaws.{is_thing_at}

-- no node that is x or holds x is an image or a rule
abbrev pub StandsInNoThing : State → ℕ → Type 0
StandsInNoThing s x = (l : ℕ) → IsWithin s.trees l x → is_thing_at s.trees l ≡ false

-- The line at a node has a container of its own, which is no empty entry of a list: insertParagraph
-- wraps nothing, and leaves no list.
pub record HasOwnLine (s : State) (l : ℕ) : Type 0 where
  pub own : is_own_container s (container_of s l) ≡ true
  pub filled : is_empty_entry s (container_of s l) ≡ false

-- From the beginning of a command in a host of the document, with a caret that stands in no image and
-- no rule, where its line has such a container: each image, each rule and each character other than tab,
-- LF, CR, space and U+00A0 stays, in order, and no other comes.
abbrev pub PartingKeeps : Type 0
PartingKeeps =
    (s : State) (h : ℕ) (p : Point) → IsValid s → is_host s.trees h ≡ true → IsWithin s.trees 0 h
    → HasRoom s → StandsAt s p → StandsInNoThing s p.label
    → HasOwnLine (begun (Some h) false s) p.label
    → KeepsOrderUpToBlanks s (final insert_paragraph (begun (Some h) false s))

-- So it is wherever the caret stands in no image and no rule, where what the steps after the erasing
-- remove bears nothing that is kept.
abbrev pub InsertParagraphKeeps : Type 0
InsertParagraphKeeps =
    (s : State) (h : ℕ) (p : Point) → IsValid s → is_host s.trees h ≡ true → IsWithin s.trees 0 h
    → HasRoom s → StandsAt s p → StandsInNoThing s p.label
    → SparesOn (insert_paragraph_inside.by_actions (final (erase DEFAULT) (begun (Some h) false s)))
    → KeepsOrderUpToBlanks s (final insert_paragraph (begun (Some h) false s))

-- at or below h, or out of the document
abbrev pub StandsIn : State → ℕ → ℕ → Type 0
StandsIn s h l = IsWithin s.trees 0 l → IsWithin s.trees h l

-- Neither h nor a node above it has display none; and at or below h no node has, each rule is a block,
-- and no image, rule or line break has children. So what isn't visible there bears blanks alone.
pub record HidesNothing (s : State) (h : ℕ) : Type 0 where
  pub shown : is_hidden s.trees h ≡ false
  pub boxes : (l : ℕ) → StandsIn s h l → is_boxless s.trees l ≡ false
  pub rules : (l : ℕ) → StandsIn s h l → has_name s.trees l (codes "hr") ≡ true
      → is_block s.trees l ≡ true
  pub things : (l : ℕ) → StandsIn s h l → is_thing_at s.trees l ≡ true → children_of s.trees l ≡ []
  pub breaks : (l : ℕ) → StandsIn s h l → is_break s.trees l ≡ true → children_of s.trees l ≡ []

-- no node that is x or holds x is an empty entry of a list
abbrev pub StandsInNoEmptyEntry : State → ℕ → Type 0
StandsInNoEmptyEntry s x = (l : ℕ) → IsWithin s.trees l x → is_empty_entry s l ≡ false

-- Where the host hides nothing, it keeps the order wherever the caret stands in no image, no rule and no
-- empty entry of a list, whether the line has a container or gets one.
abbrev pub LinesKeep : Type 0
LinesKeep =
    (s : State) (h : ℕ) (p : Point) → IsValid s → is_host s.trees h ≡ true → IsWithin s.trees 0 h
    → HasRoom s → StandsAt s p → StandsInNoThing s p.label → StandsInNoEmptyEntry s p.label
    → HidesNothing s h
    → KeepsOrderUpToBlanks s (final insert_paragraph (begun (Some h) false s))
