-- What a label tells of a node for as long as an editor lasts.
use Rattle.std.specs.Prelude.{◌≡◌, ℕ, ◌≤◌, List, [], ◌∷◌, ◌++◌, Option, Some}
use Rattle.edit_model.specs.DomModel.declared.Content.{Content}
use Rattle.edit_model.specs.DomModel.Forest.{Forest}
use Rattle.inline_value.specs.ForestChanges.Named.{Each}
use Rattle.edit_model.specs.History.{Entry}
use Rattle.edit_laws.specs.Kinds.{Kind, kind_of, SameKinds, DrawsKinds}
use Rattle.edit_engine.specs.Editing.{Editing}

-- a label that stands for a node before and after stands for one of the same kind, an element of
-- the same name; and the next label never falls
pub record KeepsLabels (old new : Editing) : Type 0 where
  pub kinds : SameKinds old.state.trees new.state.trees
  pub next : old.state.next ≤ new.state.next

-- each node of the document was there before, or its label was drawn since
abbrev pub DrawsLabels : Editing → Editing → Type 0
DrawsLabels old new =
    DrawsKinds old.state.next new.state.next old.state.trees new.state.trees

-- ---- all documents that undo and redo lead to

abbrev pub documents_in : List Entry → List (Forest Content)
documents_in [] = []
documents_in (e ∷ es) = e.before.document ∷ e.after.document ∷ documents_in es

abbrev pub documents_of : Editing → List (Forest Content)
documents_of e = e.state.trees ∷ (documents_in e.history.undo ++ documents_in e.history.redo)

-- each node of the document is of the kind that its label has
abbrev pub AgreesWith : (ℕ → Option Kind) → Forest Content → Type 0
AgreesWith kinds f = (l : ℕ) (k : Kind) → kind_of f l ≡ Some k → kinds l ≡ Some k

-- a label has one kind in all of them
abbrev pub HaveOneKind : Editing → Type 0
HaveOneKind e = (kinds : ℕ → Option Kind) × Each (AgreesWith kinds) (documents_of e)
