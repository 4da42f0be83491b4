-- The text of a log after a page block, as `replay` answers it.
use Rattle.std.specs.Prelude.{◌≡◌, ℕ, suc, ◌≤◌, false, List, [], ◌∷◌, ◌++◌, length, codes}
use Rattle.edit_model.specs.DomModel.ArenaState.{ArenaState as Arena}
use Rattle.step_text.specs.PageGrammar.Nodes.{document_of}
use Rattle.step_text.specs.PageGrammar.Page.{Siblings, size}
use Rattle.step_text.specs.PageGrammar.Reading.{Children, page_reading}
use Rattle.edit_engine.specs.Editing.{Editing}
use Rattle.edit_engine.specs.Logs.{log_steps, log_text}
use Rattle.edit_session.specs.Block.{Whole, block_of}
use Rattle.edit_session.specs.Replay.{none_yet}
use Rattle.edit_session.specs.Transcript.{input_limit, depth_limit, transcript_of, replayed_text, transcript}
use Rattle.edit_session.specs.Words.{greatest_cap}
use Rattle.edit_session.specs.declared.session.Status.TheVariants.{Done}
use Rattle.replay_laws.specs.Lines.{tallied_all}
use Rattle.replay_laws.specs.Calls.{IsOfCalls}
use Rattle.replay_laws.specs.Steps.{StaysShallow}

-- the bytes are a page, and it is read as these nodes
pub record IsReadAs (bytes : List ℕ) (page : Arena) : Type 0 where
  pub children : Siblings
  pub reading : page_reading depth_limit page.cap bytes ≡ Children children
  pub trees : page.trees ≡ document_of children
  pub next : page.next ≡ suc (size children)
  pub capped : page.cap ≤ greatest_cap

-- `replay` refuses no line of the log, and prints the HTML and the numbers of the document of the
-- editor; the next label that it prints may be a lower one
pub record TextReplays (front : List ℕ) (e : Editing) : Type 0 where
  pub next : ℕ
  pub bounded : next ≤ e.state.next
  pub answer : transcript (codes "replay" ∷ []) (front ++ 10 ∷ log_text e.history)
      ≡ transcript_of Done
      (replayed_text (tallied_all (log_steps e.history) none_yet) e.state.trees next)

-- So it is after calls as `CallsReplay` has them, from the page of a text that is a page block and a
-- line feed, where with the log after that it isn't too long.
abbrev pub CallsTextReplays : Arena → Editing → Type 0
CallsTextReplays page e =
    (front bytes : List ℕ) → block_of (front ++ 10 ∷ []) ≡ Whole bytes [] → IsReadAs bytes page
    → IsOfCalls page e → e.history.dropped ≡ false → StaysShallow e
    → length (front ++ 10 ∷ log_text e.history) ≤ input_limit → TextReplays front e
