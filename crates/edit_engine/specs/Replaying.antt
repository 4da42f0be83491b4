-- The log of an editor, replayed on the page that it began with.
use Rattle.std.specs.Prelude.{◌≡◌, ℕ, ◌≤◌, Bool, true, false, List, [], ◌∷◌, reverse, Option, Ok}
use Rattle.std.specs.Option.{option_map_or}
use Rattle.edit_model.specs.DomModel.declared.Content.{Content}
use Rattle.edit_model.specs.DomModel.declared.Content.TheVariants.{Document, Element, Words, Remark}
use Rattle.edit_model.specs.DomModel.Document.{page_depth}
use Rattle.edit_model.specs.DomModel.Forest.{Forest}
use Rattle.inline_value.specs.ForestChanges.Change.{Change, SetText, Splice, applied}
use Rattle.inline_value.specs.ForestChanges.Leaves.{IsBelow}
use Rattle.inline_value.specs.ForestChanges.Named.{Each}
use Rattle.edit_model.specs.History.{Entry, document_of}
use Rattle.inline_value.specs.EditDoc.Logged.{content_in}
use Rattle.inline_value.specs.EditDoc.Onward.{at_begin}
use Rattle.step_text.specs.Applying.{Labelled, is_text, replayed}
use Rattle.edit_engine.specs.Editing.{Editing}
use Rattle.edit_engine.specs.Logs.{log_steps}

-- ---- which entries can be replayed

-- an element or a text, which a line can make
abbrev pub can_be_made : Content → Bool
can_be_made Document = false
can_be_made (Element name attributes) = true
can_be_made (Words chars) = true
can_be_made (Remark chars) = false

-- a change of characters is one of a text, and of no comment, where each node has the content that
-- is told
abbrev pub ChangesText : (ℕ → Option Content) → Change → Type 0
ChangesText content (SetText n words) = option_map_or is_text (content n) false ≡ true
ChangesText content (Splice n at rest taken put) = option_map_or is_text (content n) false ≡ true
ChangesText content _ = Unit {0}

-- after each of the changes no node of the document is deeper than 1,000
abbrev pub StayShallow : List Change → Forest Content → Type 0
StayShallow [] f = Unit {0}
StayShallow (x ∷ xs) f = (page_depth (applied x f) ≤ 1000) × StayShallow xs (applied x f)

-- an entry whose commands made elements and texts alone, changed the characters of texts alone, and
-- left the document at no step deeper than 1,000
pub record IsPlainEntry (e : Entry) : Type 0 where
  pub made : Each (λ (n : ℕ × Content). can_be_made n.1 ≡ true) e.made
  pub texts : Each (ChangesText (content_in e)) e.edits
  pub shallow : StayShallow e.edits (at_begin e)

-- ---- the page, and the law

-- the document before the entries, the oldest first; without any, the one that is left
abbrev pub page_before : List Entry → Forest Content → Forest Content
page_before [] last = last
page_before (e ∷ es) last = e.before.document

abbrev pub page_of : Editing → Forest Content
page_of e = page_before (reverse e.history.undo) e.state.trees

-- a label that was the next one before the entries: no node of the page has it or a greater one,
-- and no node that was made since has a lower one
pub record WasNext (page : Forest Content) (es : List Entry) (next : ℕ) : Type 0 where
  pub below : IsBelow page next
  pub made : Each (λ (e : Entry). Each (λ (n : ℕ × Content). next ≤ n.0) e.made) es

-- the log replayed on the page is refused nowhere, and gives the document of the editor
pub record Replays (e : Editing) (next cap : ℕ) : Type 0 where
  pub result : Labelled
  pub ok : replayed (log_steps e.history) (record { trees = page_of e; next = next; cap = cap })
      ≡ Ok result
  pub document : document_of result.trees ≡ e.state.trees

-- wherever the cap is one that the editor's labels stay below, and its entries can be replayed
abbrev pub LogReplays : Editing → Type 0
LogReplays e =
    (next cap : ℕ) → WasNext (page_of e) e.history.undo next → next ≤ cap → e.state.next ≤ cap
    → Each IsPlainEntry e.history.undo → Replays e next cap
