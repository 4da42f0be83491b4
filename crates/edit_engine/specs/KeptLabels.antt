-- Which labels may still be told to a host that follows the document, and which are gone.
use Rattle.std.specs.Prelude.{◌≡◌, ◌≢◌, ◌⊎◌, ℕ, List}
use Rattle.edit_model.specs.DomModel.declared.Content.{Content}
use Rattle.edit_model.specs.DomModel.Forest.{Forest, count_of, IsWithin}
use Rattle.inline_value.specs.ForestChanges.Change.{Change}
use Rattle.inline_value.specs.ForestChanges.Named.{Each, named_in}
use Rattle.edit_model.specs.History.{Entry}
use Rattle.inline_value.specs.EditDoc.Kept.{IsNeeded, IsNamed, AreInTree}
use Rattle.inline_value.specs.EditDoc.Whole.{Whole}
use Rattle.edit_engine.specs.Editing.{Editing, undone, redone}
use Rattle.edit_engine.specs.Labels.{documents_of}

-- the node is in the document, or in a tree with a node that one of the changes names
abbrev pub IsNeededIn : Forest Content → (undone redone : List (List Change)) → ℕ → Type 0
IsNeededIn f undone redone l =
    IsWithin f 0 l
    ⊎ ((r : ℕ) × (m : ℕ) × AreInTree f r l m × (IsNamed undone m ⊎ IsNamed redone m))

-- so it is in a forest that has the nodes that are held, from which changes lead through the history
abbrev pub IsKept : Whole → ℕ → Type 0
IsKept d l =
    (f : Forest Content) × (undone : List (List Change)) × (redone : List (List Change))
    × IsNeeded d f undone redone × IsNeededIn f undone redone l

-- ---- the others

abbrev pub HasNo : ℕ → Forest Content → Type 0
HasNo l f = count_of f l ≡ 0

abbrev pub NamesNo : ℕ → Entry → Type 0
NamesNo l e = Each (λ m. m ≢ l) (named_in e.edits)

-- no document that undo and redo lead to has the node, and no edit of a kept entry names it
pub record IsGone (l : ℕ) (e : Editing) : Type 0 where
  pub documents : Each (HasNo l) (documents_of e)
  pub undo : Each (NamesNo l) e.history.undo
  pub redo : Each (NamesNo l) e.history.redo

-- undo and redo leave it so
abbrev pub StayGone : Type 0
StayGone = (l : ℕ) (e : Editing) → IsGone l e → IsGone l (undone e) × IsGone l (redone e)
