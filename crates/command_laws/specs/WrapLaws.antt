-- The laws of wrapping a list.
use Rattle.std.specs.Prelude.{◌≡◌, ℕ, ◌||◌, false, List, [], ◌∷◌, ◌++◌, Some}
use Rattle.edit_model.specs.DomModel.declared.Content.TheVariants.{Element}
use Rattle.edit_model.specs.DomModel.Editing.{is_true_state, is_false_state}
use Rattle.edit_model.specs.DomModel.Forest.{children_of}
use Rattle.edit_model.specs.State.{State}
use Rattle.edit_model.specs.Kept.{is_thing}
use Rattle.edit_model.specs.Run.{final}
use Rattle.edit_laws.specs.Order.{KeepsOrder, IsKeeping}
use Rattle.edit_laws.specs.Steady.{Steady}
use Rattle.edit_laws.specs.OrderPreserving.{OrderPreserving}
use Rattle.inline_value.specs.WrapSplit.declared.rule.Criterion.{Criterion}
use Rattle.inline_value.specs.WrapSplit.declared.rule.Criterion.TheVariants.{Named}
use Rattle.inline_value.specs.WrapSplit.declared.rule.Recipe.{Recipe}
use Rattle.inline_value.specs.WrapSplit.declared.rule.Recipe.TheVariants.{Nothing, Make}
use Rattle.inline_value.specs.EditActions.Siblings.{first_parent, members}
use Rattle.inline_value.specs.WrapSplit.Wrap.{wrap}

-- the name that a criterion asks for is neither img nor hr; no other criterion is met by an image
-- or a rule
abbrev pub NamesNoThing : Criterion → Type 0
NamesNoThing (Named name bare) = is_thing name ≡ false
NamesNoThing _ = Unit {0}

-- and so it is with the name of what a recipe makes
abbrev pub MakesNoThing : Recipe → Type 0
MakesNoThing Nothing = Unit {0}
MakesNoThing (Make blank) = is_thing blank.name ≡ false

-- what a recipe makes has no state of contenteditable
abbrev pub MakesNoState : Recipe → Type 0
MakesNoState Nothing = Unit {0}
MakesNoState (Make blank) = (is_true_state (Element blank.name blank.attributes)
    || is_false_state (Element blank.name blank.attributes)) ≡ false

-- of consecutive children of a node, in order
abbrev pub ListsWrap : Type 0
ListsWrap =
    (c : Criterion) (r : Recipe) (front list rest : List ℕ) (o : ℕ) (s : State) → NamesNoThing c
    → MakesNoThing r → IsKeeping s
    → children_of s.trees o ≡ front ++ (list ++ rest) → KeepsOrder s (final (wrap c r list) s)

-- of any nodes, where those that are taken, the children of the first parent, are consecutive and
-- in order
abbrev pub TakenWrap : Type 0
TakenWrap =
    (c : Criterion) (r : Recipe) (front list rest : List ℕ) (o : ℕ) (s : State) → NamesNoThing c
    → MakesNoThing r → IsKeeping s
    → first_parent s list ≡ Some o → children_of s.trees o ≡ front ++ (members s o list ++ rest)
    → KeepsOrder s (final (wrap c r list) s)

-- of one node
abbrev pub OneWraps : Type 0
OneWraps = (c : Criterion) (r : Recipe) (n : ℕ) → NamesNoThing c → MakesNoThing r
    → OrderPreserving (wrap c r (n ∷ []))

-- wrapping leaves the states of contenteditable
abbrev pub WrapsSteady : Type 0
WrapsSteady =
    (c : Criterion) (r : Recipe) (list : List ℕ) → MakesNoState r → Steady (wrap c r list)
