-- Ordered lists of attributes: the value of a name, and the lists after an attribute is set or
-- unset.
use Rattle.std.specs.Prelude.{ℕ, Bool, true, ◌&&◌, not, List, [], ◌∷◌, Option, Some, None, if◌then◌else◌, bytes_eq, map}
use Rattle.std.specs.List.{IsDistinct, list_any}
use Rattle.dom_model.specs.declared.attributes.Attribute.{Attribute}

-- the names, in order
abbrev pub names_of : List Attribute → List (List ℕ)
names_of list = map (λ a. a.name) list

-- no two attributes have the same name
abbrev pub IsDistinctNames : List Attribute → Type 0
IsDistinctNames list = IsDistinct bytes_eq (names_of list)

-- the same, told
abbrev pub are_distinct : List Attribute → Bool
are_distinct [] = true
are_distinct (a ∷ list) = not (list_any (λ b. bytes_eq a.name b.name) list) && are_distinct list

-- the value of the attribute of this name
abbrev pub value_of : List Attribute → List ℕ → Option (List ℕ)
value_of [] name = None
value_of (a ∷ list) name = if bytes_eq name a.name then Some a.value else value_of list name

-- the list with this value for this name: an attribute that is there keeps its place, a new one
-- goes last
abbrev pub set_in : List Attribute → List ℕ → List ℕ → List Attribute
set_in [] name value = record { name = name; value = value } ∷ []
set_in (a ∷ list) name value =
    if bytes_eq name a.name then record { name = a.name; value = value } ∷ list else a
    ∷ set_in list name value

-- the list without the attribute of this name
abbrev pub unset_in : List Attribute → List ℕ → List Attribute
unset_in [] name = []
unset_in (a ∷ list) name = if bytes_eq name a.name then list else a ∷ unset_in list name
