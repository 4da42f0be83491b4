-- The labels that changes name.
use Rattle.std.specs.Prelude.{List, [], ◌∷◌}
pub use Rattle.dom_model.specs.Change.{listed, named, named_in}

-- each element of a list has the property
abbrev pub Each : {A : Type 0} → (A → Type 0) → List A → Type 0
Each P [] = Unit {0}
Each P (x ∷ xs) = P x × Each P xs
