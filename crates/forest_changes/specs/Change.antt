-- Changes of a labelled nested list that an undo log keeps: each is taken back by the change that
-- it turns into.
use Rattle.std.specs.Prelude.{◌≡◌, ◌^◌, ℕ, ◌+◌, ◌<◌, List, [], ◌∷◌, ◌++◌, length, true, None, Some, IsSome, unwrap_or}
use Rattle.dom_model.specs.declared.Content.{Content}
use Rattle.dom_model.specs.AttributeList.{IsDistinctNames}
use Rattle.dom_model.specs.Contents.{IsNode, has_chars_at, is_element_at, chars_of, attributes_of, with_chars, with_attributes}
use Rattle.dom_model.specs.Forest.{Forest, Seen, seek, count_of, IsDistinct, RisesFrom, parent_of, next_of, link, unlink}
use Rattle.dom_model.specs.Revised.{revised}
use Rattle.dom_model.specs.ArenaState.{CanLink}
use Rattle.dom_model.specs.Room.{spliced}
pub use Rattle.dom_model.specs.Change.{Change, Remove, Insert, Move, SetText, Splice, SetAttributes}

-- what holds of the forest of every arena
pub record IsForest (f : Forest Content) : Type 0 where
  pub distinct : IsDistinct f
  pub rising : RisesFrom 0 f
  pub document : 0 < count_of f 0
  pub root : parent_of f 0 ≡ None
  pub nodes : (l : ℕ) (seen : Seen Content) → seek None f l ≡ Some seen → IsNode l seen

-- the characters of a node that a splice takes stand between `at` others and `rest` others, and with
-- those that it puts they can be counted in 32 bits
pub record HasPart (f : Forest Content) (n at rest : ℕ) (taken put : List ℕ) : Type 0 where
  pub front : List ℕ
  pub back : List ℕ
  pub chars : chars_of f n ≡ Some (front ++ (taken ++ back))
  pub front_long : length front ≡ at
  pub back_long : length back ≡ rest
  pub short : at + (length put + rest) < 2 ^ 32

abbrev pub FitsIn : Change → Forest Content → Type 0
FitsIn (Remove n) f = IsSome (parent_of f n)
FitsIn (Insert n p b) f = CanLink f p b n
FitsIn (Move n p b) f = IsSome (parent_of f n) × CanLink (unlink f n) p b n
FitsIn (SetText n words) f = (has_chars_at f n ≡ true) × (length words < 2 ^ 32)
FitsIn (Splice n at rest taken put) f = HasPart f n at rest taken put
FitsIn (SetAttributes n list) f = (is_element_at f n ≡ true) × IsDistinctNames list

-- the change can be made
pub record Fits (x : Change) (f : Forest Content) : Type 0 where
  pub forest : IsForest f
  pub here : FitsIn x f

-- the characters of a node with `count` of them, from the offset `at` on, given way to others
abbrev pub spliced_at : Forest Content → ℕ → ℕ → ℕ → List ℕ → List ℕ
spliced_at f n at count put = spliced (unwrap_or (chars_of f n) []) at count put

-- the forest after a change
unfoldable pub applied : Change → Forest Content → Forest Content
applied (Remove n) f = unlink f n
applied (Insert n p b) f = link f p b n
applied (Move n p b) f = link (unlink f n) p b n
applied (SetText n words) f = revised f n (with_chars words)
applied (Splice n at rest taken put) f =
    revised f n (with_chars (spliced_at f n at (length taken) put))
applied (SetAttributes n list) f = revised f n (with_attributes list)

-- the change that takes it back
unfoldable pub inverse : Change → Forest Content → Change
inverse (Remove n) f = Insert n (unwrap_or (parent_of f n) 0) (next_of f n)
inverse (Insert n p b) f = Remove n
inverse (Move n p b) f = Move n (unwrap_or (parent_of f n) 0) (next_of f n)
inverse (SetText n words) f = SetText n (unwrap_or (chars_of f n) words)
inverse (Splice n at rest taken put) f = Splice n at rest put taken
inverse (SetAttributes n list) f = SetAttributes n (unwrap_or (attributes_of f n) list)

-- the same change with the whole contents afterwards
abbrev pub whole : Change → Forest Content → Change
whole (Remove n) f = Remove n
whole (Insert n p b) f = Insert n p b
whole (Move n p b) f = Move n p b
whole (SetText n words) f = SetText n words
whole (Splice n at rest taken put) f = SetText n (spliced_at f n at (length taken) put)
whole (SetAttributes n list) f = SetAttributes n list

-- the same of changes one after another, from the first to the last
unfoldable pub wholes : List Change → Forest Content → List Change
wholes [] f = []
wholes (x ∷ xs) f = whole x f ∷ wholes xs (applied x f)

-- a change made and taken back leaves the forest and the change as they were
pub record Turns (x : Change) (f : Forest Content) : Type 0 where
  pub fits : Fits (inverse x f) (applied x f)
  pub back : applied (inverse x f) (applied x f) ≡ f
  pub same : inverse (inverse x f) (applied x f) ≡ x
