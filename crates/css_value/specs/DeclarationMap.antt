-- How pairs in order, and the places of names, stand for a list of declarations. No public clause
-- cites this module.
use Rattle.std.specs.Prelude.{◌≡◌, ℕ, Bool, true, false, List, Option, Some, None, is_some, bytes_eq, map, slice_get}
use Rattle.std.specs.List.{AllByRecursion, IsDistinct}
use Rattle.std.specs.Map.{lookup}
use Rattle.std.specs.declared.vec.Vec.{Vec}
use Rattle.css_value.specs.StyleText.{Declaration}
use Rattle.css_value.specs.DeclarationList.{reads_back, names_of}

-- the declarations of pairs
abbrev pub declarations_of : {A B : Type 0} → List (Vec ℕ A × Vec ℕ B) → List Declaration
declarations_of entries = map (λ e. record { name = e.0.items; value = e.1.items }) entries

-- each declaration would be read back as itself
abbrev pub EachReadsBack : List Declaration → Type 0
EachReadsBack list = AllByRecursion (λ d. reads_back d ≡ true) list

-- the entry has this name
abbrev pub is_entry : {A B : Type 0} → List ℕ → Option (Vec ℕ A × Vec ℕ B) → Bool
is_entry name None = false
is_entry name (Some e) = bytes_eq name e.0.items

-- each declaration would be read back as itself, and the names are distinct
abbrev pub IsStyle : List Declaration → Type 0
IsStyle list = EachReadsBack list × IsDistinct bytes_eq (names_of list)

-- the place of a name
abbrev pub place_in : {A : Type 0} → List (Vec ℕ A × ℕ) → List ℕ → Option ℕ
place_in places name = lookup (λ k. bytes_eq name k.items) places

-- each name has a place, and at each place of a name it stands
abbrev pub IsPlaced : {A : Type 0} → List (Vec ℕ A × ℕ) → List (List ℕ) → Type 0
IsPlaced places names =
    AllByRecursion (λ name. is_some (place_in places name) ≡ true) names
    × ((name : List ℕ) (i : ℕ) → place_in places name ≡ Some i → slice_get names i ≡ Some name)
