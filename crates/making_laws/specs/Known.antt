-- What is known of the nodes of a document: the names and attributes of its elements are those of
-- another one, or commands make them; and each character of its texts stands in a text of that one,
-- or in what is typed, or is a blank.
use Rattle.std.specs.Prelude.{◌≡◌, ◌⊎◌, ℕ, true, List, Contains, Some}
use Rattle.edit_model.specs.DomModel.declared.attributes.Attribute.{Attribute}
use Rattle.edit_model.specs.DomModel.declared.Content.{Content}
use Rattle.edit_model.specs.DomModel.declared.Content.TheVariants.{Element, Words, Remark}
use Rattle.edit_model.specs.DomModel.Contents.{name_of, attributes_of, chars_of}
use Rattle.edit_model.specs.DomModel.Forest.{Forest, content_of}
use Rattle.edit_model.specs.State.{State}
use Rattle.inline_value.specs.ForestChanges.Named.{Each}
use Rattle.delete_core.specs.Spaces.{is_blank}
use Rattle.making_laws.specs.Names.{is_made_name, is_set_name}

-- where what a document has may come from: the document before a command, and the command's value
pub record Source : Type 0 where
  pub forest : Forest Content
  pub value : List ℕ

abbrev pub source_of : State → List ℕ → Source
source_of s value = record { forest = s.trees; value = value }

-- an element of the forest has the name
abbrev pub HasName : Forest Content → List ℕ → Type 0
HasName f name = (l : ℕ) × (name_of f l ≡ Some name)

-- an element of the forest has the attribute, with its value
abbrev pub HasAttribute : Forest Content → Attribute → Type 0
HasAttribute f a =
    (l : ℕ) × (list : List Attribute) × (attributes_of f l ≡ Some list) × Contains list a

-- a Text or a Comment of the forest has the character
abbrev pub HasCharacter : Forest Content → ℕ → Type 0
HasCharacter f c =
    (l : ℕ) × (chars : List ℕ) × (chars_of f l ≡ Some chars) × Contains chars c

-- commands make elements of the name, or one was in the forest
abbrev pub IsKnownName : Forest Content → List ℕ → Type 0
IsKnownName f name = (is_made_name name ≡ true) ⊎ HasName f name

-- commands set attributes of the name, or an element of the forest has this one, with its value
abbrev pub IsKnownAttribute : Forest Content → Attribute → Type 0
IsKnownAttribute f a = (is_set_name a.name ≡ true) ⊎ HasAttribute f a

-- U+0020 or U+00A0, or a character of the forest or of the value
abbrev pub IsKnownCharacter : Source → ℕ → Type 0
IsKnownCharacter source c =
    (is_blank c ≡ true) ⊎ (HasCharacter source.forest c ⊎ Contains source.value c)

-- an element has a known name, and known attributes alone; a Text and a Comment have known
-- characters alone
abbrev pub IsKnown : Source → Content → Type 0
IsKnown source (Element name attributes) =
    IsKnownName source.forest name × Each (IsKnownAttribute source.forest) attributes
IsKnown source (Words chars) = Each (IsKnownCharacter source) chars
IsKnown source (Remark chars) = Each (IsKnownCharacter source) chars
IsKnown source _ = Unit {0}

-- each node of the forest is known by the source
abbrev pub KnowsAll : Source → Forest Content → Type 0
KnowsAll source g = (l : ℕ) (c : Content) → content_of g l ≡ Some c → IsKnown source c
