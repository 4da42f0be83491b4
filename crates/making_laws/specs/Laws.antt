-- What tame runs bring into a document.
use Rattle.std.specs.Prelude.{◌≡◌, ℕ, Bool, false, List, Option, None}
use Rattle.edit_model.specs.DomModel.AttributeList.{value_of}
use Rattle.edit_model.specs.DomModel.declared.Content.{Content}
use Rattle.edit_model.specs.DomModel.Forest.{Forest}
use Rattle.edit_model.specs.State.{State}
use Rattle.edit_model.specs.Compositions.{attribute_list_of}
use Rattle.edit_model.specs.History.{begun, rested}
use Rattle.edit_model.specs.Valid.{IsValid}
use Rattle.edit_model.specs.Run.{Reaches}
use Rattle.making_laws.specs.Names.{is_set_name}
use Rattle.making_laws.specs.Known.{Source, source_of, KnowsAll}
use Rattle.making_laws.specs.Tame.{TameOn}

-- all nodes stay known
abbrev pub KnownStays : Type 0
KnownStays =
    (source : Source) (s t : State) (r : Reaches s t) → IsValid s → KnowsAll source s.trees
    → TameOn source r → KnowsAll source t.trees

-- a document knows its own nodes
abbrev pub OwnAreKnown : Type 0
OwnAreKnown = (source : Source) → KnowsAll source source.forest

-- so a document after a command has nodes that the one before it knows, with the value
abbrev pub CommandsMakeKnown : Type 0
CommandsMakeKnown =
    (s t : State) (value : List ℕ) (host : Option ℕ) (keeping : Bool) → IsValid s
    → (r : Reaches (begun host keeping s) t) → TameOn (source_of s value) r
    → KnowsAll (source_of s value) (rested t).trees

-- no element has an attribute of the name
abbrev pub IsWithout : List ℕ → Forest Content → Type 0
IsWithout name f = (l : ℕ) → value_of (attribute_list_of f l) name ≡ None

-- where no element has an attribute of a name that commands don't set, no element has one in a
-- document that is known: a page without onclick gets none
abbrev pub NoneComes : Type 0
NoneComes = (name : List ℕ) (source : Source) (g : Forest Content) → is_set_name name ≡ false
    → KnowsAll source g → IsWithout name source.forest → IsWithout name g
