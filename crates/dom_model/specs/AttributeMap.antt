-- How rows in order, which are found by numbers, stand for a list of attributes. No public clause
-- cites this module.
use Rattle.std.specs.Prelude.{◌≡◌, ℕ, ◌<◌, Bool, true, false, ⊤, List, [], Option, Some, None, is_some, bytes_eq}
use Rattle.std.specs.List.{AllByRecursion}
use Rattle.std.specs.Map.{lookup, keys_of, values_of}
use Rattle.std.specs.BTreeMap.{BTreeMap}
use Rattle.std.specs.declared.boxed.Box.{Box}
use Rattle.std.specs.declared.vec.Vec.{Vec}
use Rattle.dom_model.specs.declared.attributes.Attribute.{Attribute}
use Rattle.dom_model.specs.AttributeList.{names_of, IsDistinctNames}

-- the attribute has this name
abbrev pub is_named : List ℕ → Option Attribute → Bool
is_named name None = false
is_named name (Some a) = bytes_eq name a.name

-- the number of a name
abbrev pub number_of : {A : Type 0} → List (Vec ℕ A × ℕ) → List ℕ → Option ℕ
number_of numbers name = lookup (λ k. bytes_eq name k.items) numbers

-- each name has a number
abbrev pub IsNumbered : {A : Type 0} → List (Vec ℕ A × ℕ) → List (List ℕ) → Type 0
IsNumbered numbers names = AllByRecursion (λ name. is_some (number_of numbers name) ≡ true) names

-- where names are numbered, each name has a number
abbrev pub IsKnown : {A B : Type 0} → Option (Box (BTreeMap (Vec ℕ A) ℕ) B) → List (List ℕ) → Type 0
IsKnown None names = ⊤
IsKnown (Some b) names = IsNumbered b.value.entries names

-- all numbers of rows are below this one
abbrev pub IsAbove : ℕ → List (ℕ × Attribute) → Type 0
IsAbove next rows = AllByRecursion (λ n. n < next) (keys_of rows)

-- the names of the rows are distinct, their numbers are below the next one, and where names are
-- numbered each has its number
abbrev pub IsListing : {A B : Type 0} → List (ℕ × Attribute) → ℕ → Option (Box (BTreeMap (Vec ℕ A) ℕ) B) → Type 0
IsListing rows next numbers =
    IsDistinctNames (values_of rows) × IsAbove next rows × IsKnown numbers (names_of (values_of rows))

-- the attributes of a list, if there is one
abbrev pub listed : {B : Type 0} → Option (Box (List Attribute) B) → List Attribute
listed None = []
listed (Some b) = b.value
