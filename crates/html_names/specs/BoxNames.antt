-- The style properties that make the box of an element, by their names in lower case.
use Rattle.std.specs.Prelude.{ℕ, Bool, List, [], ◌∷◌, ◌++◌, codes}
use Rattle.html_names.specs.ElementNames.{is_one_of}

-- the margin as a whole, and each side of it
unfoldable pub margin_names : List (List ℕ)
margin_names =
    codes "margin"
    ∷ codes "margin-top"
    ∷ codes "margin-right"
    ∷ codes "margin-bottom"
    ∷ codes "margin-left"
    ∷ []

-- margins, paddings and borders: as a whole, then by kind or side
unfoldable pub box_names : List (List ℕ)
box_names =
    margin_names
    ++ codes "padding"
    ∷ codes "padding-top"
    ∷ codes "padding-right"
    ∷ codes "padding-bottom"
    ∷ codes "padding-left"
    ∷ codes "border"
    ∷ codes "border-width"
    ∷ codes "border-style"
    ∷ codes "border-color"
    ∷ codes "border-top"
    ∷ codes "border-top-width"
    ∷ codes "border-top-style"
    ∷ codes "border-top-color"
    ∷ codes "border-right"
    ∷ codes "border-right-width"
    ∷ codes "border-right-style"
    ∷ codes "border-right-color"
    ∷ codes "border-bottom"
    ∷ codes "border-bottom-width"
    ∷ codes "border-bottom-style"
    ∷ codes "border-bottom-color"
    ∷ codes "border-left"
    ∷ codes "border-left-width"
    ∷ codes "border-left-style"
    ∷ codes "border-left-color"
    ∷ []

unfoldable pub is_margin_name : List ℕ → Bool
is_margin_name property = is_one_of margin_names property

unfoldable pub is_box_name : List ℕ → Bool
is_box_name property = is_one_of box_names property
