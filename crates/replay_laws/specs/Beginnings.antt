-- What a log begins with, after any calls, and what its entries make and change.
use Rattle.std.specs.Prelude.{◌≡◌, ℕ, true, false}
use Rattle.edit_model.specs.DomModel.declared.Content.{Content}
use Rattle.edit_model.specs.DomModel.ArenaState.{ArenaState as Arena}
use Rattle.inline_value.specs.ForestChanges.Named.{Each}
use Rattle.edit_model.specs.History.{Entry}
use Rattle.inline_value.specs.EditDoc.Logged.{content_in}
use Rattle.edit_engine.specs.Editing.{Editing}
use Rattle.edit_engine.specs.Replaying.{can_be_made, ChangesText, WasNext, page_of}
use Rattle.replay_laws.specs.Calls.{IsOfCalls}

-- the document before the first entry is that of the page
abbrev pub BeginsWithPage : Arena → Editing → Type 0
BeginsWithPage page e = IsOfCalls page e → e.history.dropped ≡ false → page_of e ≡ page.trees

-- no node of the page has a label of a node that was made since
abbrev pub DrawsNewLabels : Arena → Editing → Type 0
DrawsNewLabels page e = IsOfCalls page e → e.history.dropped ≡ false
    → WasNext page.trees e.history.undo page.next

-- an entry made elements and texts alone, and changed the characters of texts alone
pub record IsSpelled (x : Entry) : Type 0 where
  pub made : Each (λ (n : ℕ × Content). can_be_made n.1 ≡ true) x.made
  pub texts : Each (ChangesText (content_in x)) x.edits

-- so it is of each entry that undo would take
abbrev pub SpellsEntries : Arena → Editing → Type 0
SpellsEntries page e = IsOfCalls page e → e.history.dropped ≡ false
    → Each IsSpelled e.history.undo
