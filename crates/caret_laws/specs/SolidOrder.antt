-- What the document bears besides blanks, where U+00A0 counts as one: laying out whitespace anew puts it in the place of a space,
-- and a space in its place.
use Rattle.std.specs.Prelude.{◌≡◌, ◌^◌, ◌<◌, ℕ, ◌+◌, Bool, true, ◌||◌, not, ◌==◌, List, [], ◌∷◌, ◌++◌, length, filter, Some}
use Rattle.edit_model.specs.DomModel.declared.Content.{Content}
use Rattle.edit_model.specs.DomModel.declared.Content.TheVariants.{Words}
use Rattle.edit_model.specs.DomModel.Contents.{is_break}
use Rattle.edit_model.specs.DomModel.Forest.{Forest, children_of, content_of}
use Rattle.edit_model.specs.LiveRange.declared.places.Point.{Point}
use Rattle.edit_model.specs.Kept.{Leaf, Letter, Thing, leaves, is_blank}
use Rattle.edit_model.specs.State.{State}
use Rattle.edit_model.specs.History.{document_of}

-- an image, a rule, or a character other than tab, LF, CR, space and U+00A0
abbrev pub is_solid : Leaf → Bool
is_solid (Letter c) = not (is_blank c || c == 160)
is_solid (Thing l) = true

unfoldable pub solid_leaves : Forest Content → List Leaf
solid_leaves f = filter is_solid (leaves f)

-- the documents of two states have the same ones, in the same order: none is lost, and no other comes
abbrev pub KeepsOrderUpToBlanks : State → State → Type 0
KeepsOrderUpToBlanks s t = solid_leaves (document_of t.trees) ≡ solid_leaves (document_of s.trees)

-- a list with one more member, at one place
pub record OneMore {A : Type 0} (x : A) (before after : List A) : Type 0 where
  pub front : List A
  pub back : List A
  pub was : before ≡ front ++ back
  pub now : after ≡ front ++ (x ∷ back)

-- the other document has one more, an image or a rule of this label, and the rest in the same order
abbrev pub AddsThing : ℕ → State → State → Type 0
AddsThing n s t =
    OneMore (Thing n) (solid_leaves (document_of s.trees)) (solid_leaves (document_of t.trees))

-- the selection is a caret at p
abbrev pub StandsAt : State → Point → Type 0
StandsAt s p = s.points.selection ≡ Some (record { anchor = p; focus = p })

-- each text has room for so many more characters, and for one
abbrev pub HasRoomFor : ℕ → State → Type 0
HasRoomFor n s =
    (l : ℕ) (chars : List ℕ) → content_of s.trees l ≡ Some (Words chars) → length chars + n < 2 ^ 32

abbrev pub HasRoom : State → Type 0
HasRoom s = HasRoomFor 1 s

-- no br has children
abbrev pub BreaksAreEmpty : State → Type 0
BreaksAreEmpty s = (l : ℕ) → is_break s.trees l ≡ true → children_of s.trees l ≡ []
