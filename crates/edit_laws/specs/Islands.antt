-- What a command does to an island of its host.
use Rattle.std.specs.Prelude.{◌≡◌, ◌≢◌, ◌⊎◌, ℕ, true, List, ◌∷◌, ◌++◌}
use Rattle.edit_model.specs.DomModel.declared.Content.{Content}
use Rattle.edit_model.specs.DomModel.Change.{Change}
use Rattle.edit_model.specs.DomModel.Change as change
use Rattle.edit_model.specs.DomModel.Forest.{Forest, tree_of, IsWithin}
use Rattle.edit_model.specs.State.{State}
use Rattle.edit_model.specs.Confined.{is_own}
use Rattle.edit_model.specs.Edit.{Remove, is_made_edit}
use Rattle.edit_model.specs.Action as action
use Rattle.edit_model.specs.Action.{acted}
use Rattle.edit_model.specs.Run.{Reaches}

-- it stands below the host, with an equal tree
pub record StaysBelow (before after : Forest Content) (host l : ℕ) : Type 0 where
  pub inside : IsWithin after host l
  pub same : tree_of after l ≡ tree_of before l

-- On the way from the state in which a command began to another one the command removed a tree that
-- holds l below its root, and the root was then editable for the host or made by the command. The
-- removal is one of the command's list of edits.
pub record IsTakenOut (began now : State) (l : ℕ) : Type 0 where
  pub root : ℕ
  pub then_at : State
  pub reached : Reaches began then_at
  pub went_on : Reaches (acted (action.Change (Remove root)) then_at) now
  pub made : is_made_edit (Remove root) then_at ≡ true
  pub holds : IsWithin then_at.trees root l
  pub below : root ≢ l
  pub own : is_own then_at root ≡ true
  pub later : List Change
  pub listed : now.edits ≡ then_at.edits ++ (change.Remove root ∷ later)

-- in the document with an equal tree below the host, or out of it and taken out by a removal
abbrev pub IslandKept : (began now : State) (before after : Forest Content) (host l : ℕ) → Type 0
IslandKept began now before after host l = StaysBelow before after host l
    ⊎ ((IsWithin after 0 l → ⊥) × IsTakenOut began now l)
