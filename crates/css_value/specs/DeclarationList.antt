-- Lists of declarations: the value of a name, the lists after a property is set or unset, and how a
-- list is printed.
use Rattle.std.specs.Prelude.{ℕ, Bool, true, false, ◌&&◌, if◌then◌else◌, List, [], ◌∷◌, ◌++◌, Option, Some, None, bytes_eq, map, fold}
use Rattle.css_value.specs.StyleText.{Declaration, trimmed, outside, pieces, declaration_of, stated}

-- the value of the property of this name
abbrev pub value_of : List Declaration → List ℕ → Option (List ℕ)
value_of [] name = None
value_of (d ∷ list) name = if bytes_eq name d.name then Some d.value else value_of list name

-- the list with this value for this name: a property that is there keeps its place, a new one goes
-- last
abbrev pub set_in : List Declaration → List ℕ → List ℕ → List Declaration
set_in [] name value = record { name = name; value = value } ∷ []
set_in (d ∷ list) name value =
    if bytes_eq name d.name then record { name = d.name; value = value } ∷ list else d
    ∷ set_in list name value

-- the list without the property of this name
abbrev pub unset_in : List Declaration → List ℕ → List Declaration
unset_in [] name = []
unset_in (d ∷ list) name = if bytes_eq name d.name then list else d ∷ unset_in list name

-- the names, in order
abbrev pub names_of : List Declaration → List (List ℕ)
names_of list = map (λ d. d.name) list

-- the list with another declaration
abbrev pub with_declaration : List Declaration → Declaration → List Declaration
with_declaration list d = set_in list d.name d.value

-- the declarations of a style text: a repeated name keeps its first place and takes the last value
unfoldable pub declarations_in : List ℕ → List Declaration
declarations_in text = fold with_declaration [] (stated text)

-- `name: value`
unfoldable pub text_of : Declaration → List ℕ
text_of d = d.name ++ 58 ∷ 32 ∷ d.value

abbrev pub is_single : List (List ℕ) → Bool
is_single [] = false
is_single (piece ∷ []) = true
is_single (piece ∷ other ∷ rest) = false

abbrev pub is_declaration : Option Declaration → Declaration → Bool
is_declaration None d = false
is_declaration (Some e) d = bytes_eq d.name e.name && bytes_eq e.value d.value

-- the declaration's text is one piece, which declares this name with this value
unfoldable pub reads_back : Declaration → Bool
reads_back d =
    is_single (pieces outside (text_of d)) && is_declaration (declaration_of (text_of d)) d

-- the list after a property is set: the value is trimmed, and what wouldn't be read back as that
-- one value under that name changes nothing
unfoldable pub set_property : List Declaration → List ℕ → List ℕ → List Declaration
set_property list name value =
    if reads_back (record { name = name; value = trimmed value }) then
    set_in list name (trimmed value) else list

-- what stands before a declaration: a space, unless it is the first
abbrev pub gap : Bool → List ℕ
gap true = []
gap false = 32 ∷ []

-- a space before each further declaration
abbrev pub printed_after : List Declaration → List ℕ
printed_after [] = []
printed_after (d ∷ list) = 32 ∷ text_of d ++ 59 ∷ printed_after list

-- `name: value;` of each declaration, joined by one space
unfoldable pub printed : List Declaration → List ℕ
printed [] = []
printed (d ∷ list) = text_of d ++ 59 ∷ printed_after list
