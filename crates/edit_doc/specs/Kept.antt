-- Which nodes a document holds outside commands: those of the document, and the loose trees that
-- kept entries need.
use Rattle.std.specs.Prelude.{◌≡◌, ◌⊎◌, ℕ, ◌<◌, true, List, [], ◌∷◌, Some, None, slice_index_or}
use Rattle.edit_model.specs.DomModel.declared.Content.{Content}
use Rattle.edit_model.specs.DomModel.Forest.{Forest, count_of, parent_of, IsWithin}
use Rattle.edit_model.specs.DomModel.ArenaState.{slot_of}
use Rattle.edit_model.specs.LiveRange.PointsEdit.{has_label}
use Rattle.step_edits.specs.UndoLog.Turning.{back, forth, inverses_back, FitsBack, FitsForth}
use Rattle.step_edits.specs.ForestChanges.Change.{Change, IsForest, Fits, applied, inverse}
use Rattle.step_edits.specs.ForestChanges.Named.{named_in}
use Rattle.edit_model.specs.History.{Entry, document_of}
use Rattle.edit_doc.specs.Whole.{Whole}

-- the changes, which take back the edits of the entry, lead from the forest with the document after
-- it to one with the document before it
pub record LeadsBack (f : Forest Content) (xs : List Change) (e : Entry) : Type 0 where
  pub fits : FitsBack applied Fits xs f
  pub own : inverses_back applied inverse xs f ≡ e.edits
  pub after : e.after.document ≡ document_of f
  pub before : e.before.document ≡ document_of (back applied xs f)

-- and the edits of the entry lead from one with the document before it to one with the document
-- after it
pub record LeadsForth (f : Forest Content) (xs : List Change) (e : Entry) : Type 0 where
  pub fits : FitsForth applied Fits xs f
  pub own : xs ≡ e.edits
  pub before : e.before.document ≡ document_of f
  pub after : e.after.document ≡ document_of (forth applied xs f)

-- there is such a list of changes for each entry, one after another
abbrev pub LeadAllBack : Forest Content → List (List Change) → List Entry → Type 0
LeadAllBack f [] [] = Unit {0}
LeadAllBack f [] (e ∷ es) = ⊥
LeadAllBack f (x ∷ xs) [] = ⊥
LeadAllBack f (x ∷ xs) (e ∷ es) = LeadsBack f x e × LeadAllBack (back applied x f) xs es

abbrev pub LeadAllForth : Forest Content → List (List Change) → List Entry → Type 0
LeadAllForth f [] [] = Unit {0}
LeadAllForth f [] (e ∷ es) = ⊥
LeadAllForth f (x ∷ xs) [] = ⊥
LeadAllForth f (x ∷ xs) (e ∷ es) = LeadsForth f x e × LeadAllForth (forth applied x f) xs es

-- a change of one of the lists names the node
abbrev pub IsNamed : List (List Change) → ℕ → Type 0
IsNamed [] l = ⊥
IsNamed (x ∷ xs) l = (has_label (named_in x) l ≡ true) ⊎ IsNamed xs l

-- r is the root of a tree that has the nodes l and m
pub record AreInTree (f : Forest Content) (r l m : ℕ) : Type 0 where
  pub root : parent_of f r ≡ None
  pub has : IsWithin f r l
  pub has_too : IsWithin f r m

-- The forest has the nodes that are held, the changes lead from it through the history, and each
-- node is in the document or in a tree with a node that one of the changes names.
pub record IsNeeded (d : Whole) (f : Forest Content)
    (undone redone : List (List Change)) : Type 0 where
  pub forest : IsForest f
  pub document : document_of f ≡ d.state.trees
  pub held : (slot l : ℕ) → slice_index_or d.held slot None ≡ Some l → 0 < count_of f l
  pub slotted : (l : ℕ) → 0 < count_of f l → slice_index_or d.held (slot_of d.held l) None ≡ Some l
  pub undo : LeadAllBack f undone d.history.undo
  pub redo : LeadAllForth f redone d.history.redo
  pub needed : (l : ℕ) → 0 < count_of f l → IsWithin f 0 l ⊎ ((r : ℕ) × (m : ℕ) × AreInTree f r l m
      × (IsNamed undone m ⊎ IsNamed redone m))

abbrev pub HoldsOnlyNeeded : Whole → Type 0
HoldsOnlyNeeded d =
    (f : Forest Content) × (undone : List (List Change)) × (redone : List (List Change))
    × IsNeeded d f undone redone
