-- Attribute lists of the grammar, set, unset and read.
use Rattle.std.proofs.Common.{◌≡◌, ℕ, Bool, true, false, cond, List, [], ◌∷◌, Some, IfSome}
use Rattle.std.specs.Prelude.{bytes_eq}
use Rattle.std.specs.List.{IsDistinct}
use Rattle.edit_model.specs.DomModel.declared.attributes.Attribute.{Attribute}
use Rattle.edit_model.specs.DomModel.AttributeList.{value_of, set_in, unset_in}
use Rattle.edit_model.proofs.DomModel.AttributeLemmas.{distinct-set, distinct-unset}
use Rattle.step_text.specs.StepLine.{is_attribute_name, AreAttributes}
use Rattle.making_laws.specs.Names.{is_set_name}
use Rattle.grammar_laws.specs.Proper.{IsText, IsList}
use Rattle.grammar_laws.proofs.Names.{set_name}

pub list_none : IsList []
unfolding IsDistinct
list_none = (tt, tt)

pub list_one : (name value : List ℕ) → is_set_name name ≡ true → IsText value → IsList (record { name = name; value = value } ∷ [])
unfolding IsDistinct
list_one name value set own = ((set_name name set, own, tt), (tt, tt))

-- ---- a list set

attributes_set : (list : List Attribute) (name value : List ℕ) → is_attribute_name name ≡ true → IsText value → AreAttributes list → AreAttributes (set_in list name value)
attributes_set [] name value named own h = (named, own, tt)
attributes_set (a ∷ list) name value named own h = by_test (bytes_eq name a.name) (attributes_set list name value named own h.2)
  where
    by_test : (b : Bool) → AreAttributes (set_in list name value) → AreAttributes (cond b (record { name = a.name; value = value } ∷ list) (a ∷ set_in list name value))
    by_test true more = (h.0, own, h.2)
    by_test false more = (h.0, h.1, more)

attributes_unset : (list : List Attribute) (name : List ℕ) → AreAttributes list → AreAttributes (unset_in list name)
attributes_unset [] name h = tt
attributes_unset (a ∷ list) name h = by_test (bytes_eq name a.name) (attributes_unset list name h.2)
  where
    by_test : (b : Bool) → AreAttributes (unset_in list name) → AreAttributes (cond b list (a ∷ unset_in list name))
    by_test true more = h.2
    by_test false more = (h.0, h.1, more)

pub list_set : (list : List Attribute) (name value : List ℕ) → is_attribute_name name ≡ true → IsText value → IsList list → IsList (set_in list name value)
list_set list name value named own h = (attributes_set list name value named own h.0, distinct-set list name value h.1)

pub list_unset : (list : List Attribute) (name : List ℕ) → IsList list → IsList (unset_in list name)
list_unset list name h = (attributes_unset list name h.0, distinct-unset list name h.1)

-- ---- a value read

pub value_text : (list : List Attribute) (name : List ℕ) → AreAttributes list → IfSome (value_of list name) IsText
value_text [] name h = tt
value_text (a ∷ list) name h = by_test (bytes_eq name a.name) (value_text list name h.2)
  where
    by_test : (b : Bool) → IfSome (value_of list name) IsText → IfSome (cond b (Some a.value) (value_of list name)) IsText
    by_test true more = h.1
    by_test false more = more
