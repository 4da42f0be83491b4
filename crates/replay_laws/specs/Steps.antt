-- The steps of a log, after any calls, replayed on the nodes of the page.
use Rattle.std.specs.Prelude.{◌≡◌, ℕ, ◌≤◌, false, Ok}
use Rattle.edit_model.specs.DomModel.ArenaState.{ArenaState as Arena}
use Rattle.inline_value.specs.ForestChanges.Named.{Each}
use Rattle.edit_model.specs.History.{Entry, document_of}
use Rattle.inline_value.specs.EditDoc.Onward.{at_begin}
use Rattle.step_text.specs.Applying.{Labelled, replayed}
use Rattle.edit_engine.specs.Editing.{Editing}
use Rattle.edit_engine.specs.Logs.{log_steps}
use Rattle.edit_engine.specs.Replaying.{StayShallow}
use Rattle.replay_laws.specs.Calls.{IsOfCalls}

-- after each edit of the entries no node of the document is deeper than 1,000
abbrev pub StaysShallow : Editing → Type 0
StaysShallow e = Each (λ (x : Entry). StayShallow x.edits (at_begin x)) e.history.undo

-- the nodes of a page, where labels stay below a cap
abbrev pub on_page : Arena → ℕ → Labelled
on_page page cap = record { trees = page.trees; next = page.next; cap = cap }

-- the steps are refused nowhere, and give the document of the editor; the next label isn't above that
-- of the editor
pub record StepsReplay (page : Arena) (cap : ℕ) (e : Editing) : Type 0 where
  pub result : Labelled
  pub ok : replayed (log_steps e.history) (on_page page cap) ≡ Ok result
  pub document : document_of result.trees ≡ e.state.trees
  pub bounded : result.next ≤ e.state.next

-- so it is after all calls that dropped no entry as the oldest, and with which the document was
-- never deeper than 1,000, whatever cap the replay has that isn't below the page's
abbrev pub CallsReplay : Arena → Editing → Type 0
CallsReplay page e = (cap : ℕ) → page.cap ≤ cap → IsOfCalls page e
    → e.history.dropped ≡ false → StaysShallow e → StepsReplay page cap e
