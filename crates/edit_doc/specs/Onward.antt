-- How the entries of a history lead from one document to another.
use Rattle.std.specs.Prelude.{◌≡◌, ℕ, ◌+◌, ◌≤◌, List, [], ◌∷◌, reverse}
use Rattle.edit_model.specs.DomModel.declared.Content.{Content}
use Rattle.edit_model.specs.DomModel.Forest.{Forest, with_leaf}
use Rattle.step_edits.specs.UndoLog.Turning.{forth, FitsForth}
use Rattle.step_edits.specs.ForestChanges.Change.{Fits, IsForest, applied}
use Rattle.step_edits.specs.ForestChanges.Leaves.{IsBelow, IsMade}
use Rattle.step_edits.specs.ForestChanges.Named.{Each}
use Rattle.edit_model.specs.History.{Entry, document_of}
use Rattle.edit_doc.specs.Whole.{Whole}

-- the forest with more nodes, each alone in a tree
abbrev pub with_made : Forest Content → List (ℕ × Content) → Forest Content
with_made f [] = f
with_made f (n ∷ ns) = with_made (with_leaf f n.0 n.1) ns

-- the labels of nodes rise from this one on
abbrev pub RiseFrom : ℕ → List (ℕ × Content) → Type 0
RiseFrom next [] = Unit {0}
RiseFrom next (n ∷ ns) = (next ≤ n.0) × RiseFrom (n.0 + 1) ns

-- the label after theirs
abbrev pub next_past : ℕ → List (ℕ × Content) → ℕ
next_past next [] = next
next_past next (n ∷ ns) = next_past (n.0 + 1) ns

-- the document before an entry, with the nodes that its commands made beside it
abbrev pub at_begin : Entry → Forest Content
at_begin e = with_made e.before.document e.made

-- An entry leads from a document on, where labels from `next` on are new: its edits fit the
-- document with the nodes that were made beside it, and give the document after it.
pub record LeadsOnward (next : ℕ) (d : Forest Content) (e : Entry) : Type 0 where
  pub before : e.before.document ≡ d
  pub rise : RiseFrom next e.made
  pub made : Each (λ (n : ℕ × Content). IsMade n.1) e.made
  pub fits : FitsForth applied Fits e.edits (at_begin e)
  pub after : document_of (forth applied e.edits (at_begin e)) ≡ e.after.document

-- entries, from the oldest on, lead from one document to another, and the nodes that they made have
-- labels from `next` on, below `end`
abbrev pub LeadOnward : ℕ → Forest Content → List Entry → Forest Content → ℕ → Type 0
LeadOnward next d [] last end = (d ≡ last) × (next ≤ end)
LeadOnward next d (e ∷ es) last end =
    LeadsOnward next d e × LeadOnward (next_past next e.made) e.after.document
    es last end

-- from a document that stands alone, whose labels are below `next`
pub record LeadFrom (page : Forest Content) (next : ℕ) (es : List Entry) (last : Forest Content)
    (end : ℕ) : Type 0 where
  pub forest : IsForest page
  pub alone : document_of page ≡ page
  pub below : IsBelow page next
  pub onward : LeadOnward next page es last end

-- the entries that undo would take led from some document to that of the state, with labels below
-- the next one
abbrev pub HasLedOnward : Whole → Type 0
HasLedOnward d = (page : Forest Content) × (next : ℕ) × LeadFrom page next (reverse d.history.undo)
    d.state.trees d.state.next
