-- Changes of a labelled nested list, and the labels that they name.
use Rattle.std.specs.Prelude.{ℕ, List, [], ◌∷◌, ◌++◌, Option, Some, None}
use Rattle.dom_model.specs.declared.attributes.Attribute.{Attribute}

-- a tree made loose; a loose tree linked; a tree moved to another place; other characters of a Text
-- or Comment node, all of them, or those taken that stand between `at` others before and `rest`
-- behind; another attribute list of an element
pub data Change : Type 0 where
  Remove : (node : ℕ) → Change
  Insert : (node parent : ℕ) (before : Option ℕ) → Change
  Move : (node parent : ℕ) (before : Option ℕ) → Change
  SetText : (node : ℕ) (words : List ℕ) → Change
  Splice : (node at rest : ℕ) (taken put : List ℕ) → Change
  SetAttributes : (node : ℕ) (list : List Attribute) → Change

abbrev pub listed : {A : Type 0} → Option A → List A
listed None = []
listed (Some x) = x ∷ []

-- the labels that a change names
abbrev pub named : Change → List ℕ
named (Remove n) = n ∷ []
named (Insert n p b) = n ∷ p ∷ listed b
named (Move n p b) = n ∷ p ∷ listed b
named (SetText n words) = n ∷ []
named (Splice n at rest taken put) = n ∷ []
named (SetAttributes n list) = n ∷ []

-- the labels that the changes of a list name
abbrev pub named_in : List Change → List ℕ
named_in [] = []
named_in (x ∷ xs) = named x ++ named_in xs
