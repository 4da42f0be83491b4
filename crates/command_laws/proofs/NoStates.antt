-- Nodes without a state of contenteditable: those that are editable, and those that a steady run made. An element made
-- with the attributes of such a node, but for the id, has no state.
use Rattle.std.proofs.Common.{◌≡◌, ℕ, ◌≤◌, true, false, List, [], ◌∷◌, Option, Some, None, refl, subst, inl, inr}
use Rattle.std.specs.Prelude.{bytes_eq, codes, unwrap_or}
use Rattle.std.specs.Option.{option_map, option_and_then}
use Rattle.std.proofs.lemmas.Bool.{cases_Bool}
use Rattle.std.proofs.lemmas.Slice.Eq.{bytes_eq-Decides}
use Rattle.edit_model.specs.DomModel.declared.Content.{Content}
use Rattle.edit_model.specs.DomModel.declared.Content.TheVariants.{Document, Element, Words, Remark}
use Rattle.edit_model.specs.DomModel.declared.attributes.Attribute.{Attribute}
use Rattle.edit_model.specs.DomModel.AttributeList.{value_of, unset_in}
use Rattle.edit_model.specs.DomModel.Contents.{attributes_in}
use Rattle.edit_model.specs.DomModel.Editing.{contenteditable}
use Rattle.edit_model.specs.DomModel.Forest.{content_of}
use Rattle.edit_model.specs.State.{State}
use Rattle.edit_model.specs.Action.{MakeElement}
use Rattle.edit_model.specs.Compositions.{attribute_list_of}
use Rattle.edit_model.specs.Confined.{is_editable_for}
use Rattle.edit_model.specs.Laws.{LeavesStates}
use Rattle.edit_model.specs.Valid.{IsValid}
use Rattle.edit_model.specs.Run.{Run, final}
use Rattle.edit_model.proofs.Each.{copy_stateless}
use Rattle.edit_model.proofs.States.{stated_value, states_along}
use Rattle.edit_laws.specs.Steady.{Steady}
use Rattle.edit_laws.proofs.SteadyRuns.{states_on}

-- what is made with the attributes of the node has no state
abbrev pub HasNoState : State → ℕ → Type 0
HasNoState s n = (name : List ℕ) → LeavesStates (MakeElement name (attribute_list_of s.trees n))

pub editable_unstated : (s : State) (n : ℕ) → IsValid s → is_editable_for s n ≡ true → HasNoState s n
editable_unstated s n is editable name = copy_stateless s n name is editable

pub made_unstated : {T : Type 0} (m : Run T) (s : State) (n : ℕ) → IsValid s → Steady m → s.next ≤ n → HasNoState (final m s) n
unfolding final
made_unstated m s n is h high name =
    by_content (content_of (m.run s).0.trees n) ((states_along (m.by_actions s) is (states_on (m.by_actions s) (h.leaves s is))).made n high)
  where
    by_content : (o : Option Content) → stated_value (option_map contenteditable o) ≡ false
        → LeavesStates (MakeElement name (unwrap_or (option_and_then attributes_in o) []))
    by_content None stated = refl
    by_content (Some Document) stated = refl
    by_content (Some (Element own attributes)) stated = stated
    by_content (Some (Words chars)) stated = refl
    by_content (Some (Remark chars)) stated = refl

-- ---- but for the id

no_id : (name : List ℕ) → bytes_eq (codes "id") name ≡ true → bytes_eq (codes "contenteditable") name ≡ false
no_id name same =
    subst (λ n. bytes_eq (codes "contenteditable") n ≡ false) ((bytes_eq-Decides (codes "id") name).0 same) refl

value_of-without_id : (list : List Attribute) → value_of (unset_in list (codes "id")) (codes "contenteditable")
    ≡ value_of list (codes "contenteditable")
value_of-without_id [] = refl
value_of-without_id (a ∷ list) = elim (cases_Bool (bytes_eq (codes "id") a.name)) [
  | inl t ↦ rw (t, no_id a.name t) refl
  | inr t ↦ rw (t, value_of-without_id list) refl
]

pub unstated_without_id : (name : List ℕ) (list : List Attribute) → LeavesStates (MakeElement name list)
    → LeavesStates (MakeElement name (unset_in list (codes "id")))
unstated_without_id name list h = rw (value_of-without_id list) h
