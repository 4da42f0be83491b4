-- What a node is for as long as it is there: its kind, and of an element its name.
use Rattle.std.specs.Prelude.{◌≡◌, ◌⊎◌, ℕ, ◌<◌, ◌≤◌, List, Option, Some}
use Rattle.std.specs.Option.{option_map}
use Rattle.edit_model.specs.DomModel.declared.Content.{Content}
use Rattle.edit_model.specs.DomModel.declared.Content.TheVariants as content
use Rattle.edit_model.specs.DomModel.Forest.{Forest, content_of}

pub data Kind : Type 0 where
  Document : Kind
  Element : (name : List ℕ) → Kind
  Text : Kind
  Comment : Kind

abbrev pub kind_in : Content → Kind
kind_in content.Document = Document
kind_in (content.Element name attributes) = Element name
kind_in (content.Words chars) = Text
kind_in (content.Remark chars) = Comment

-- the kind of the node of a label, where the forest has the node
abbrev pub kind_of : Forest Content → ℕ → Option Kind
kind_of f l = option_map kind_in (content_of f l)

-- a label that stands for a node in both forests stands for one kind of node
abbrev pub SameKinds : Forest Content → Forest Content → Type 0
SameKinds f g = (l : ℕ) (k m : Kind) → kind_of f l ≡ Some k → kind_of g l ≡ Some m → m ≡ k

-- each node of the second forest is one of the first, of the same kind, or its label is from `low`
-- on and below `high`
abbrev pub DrawsKinds : (low high : ℕ) → Forest Content → Forest Content → Type 0
DrawsKinds low high f g =
    (l : ℕ) (k : Kind) → kind_of g l ≡ Some k → (kind_of f l ≡ Some k) ⊎ ((low ≤ l) × (l < high))
