-- Which properties a style sets, and no others.
use Rattle.std.specs.Prelude.{ℕ, Bool, true, false, List, [], ◌∷◌, bytes_eq, codes}
use Rattle.std.specs.List.{list_all}
use Rattle.html_names.specs.BoxNames.{is_box_name}
use Rattle.css_value.specs.declared.only.Only.{Only}
use Rattle.css_value.specs.declared.only.Only.TheVariants.{Nothing, FontWeight, FontStyle, TextDecoration, TextAlign, BoxNames, AnyOne}

abbrev pub is_nothing : List (List ℕ) → Bool
is_nothing [] = true
is_nothing (name ∷ names) = false

abbrev pub is_one : List (List ℕ) → Bool
is_one [] = false
is_one (name ∷ names) = is_nothing names

abbrev pub is_only : List ℕ → List (List ℕ) → Bool
is_only wanted [] = false
is_only wanted (name ∷ []) = bytes_eq wanted name
is_only wanted (name ∷ other ∷ names) = false

-- whether the names of a style's declarations are: none; exactly that one; box names alone; exactly
-- one
unfoldable pub sets_only : Only → List (List ℕ) → Bool
sets_only Nothing names = is_nothing names
sets_only FontWeight names = is_only (codes "font-weight") names
sets_only FontStyle names = is_only (codes "font-style") names
sets_only TextDecoration names = is_only (codes "text-decoration") names
sets_only TextAlign names = is_only (codes "text-align") names
sets_only BoxNames names = list_all is_box_name names
sets_only AnyOne names = is_one names
