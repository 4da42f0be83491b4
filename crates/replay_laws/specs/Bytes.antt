-- Sessions, their logs and their HTML as bytes: what the program answers to them.
use Rattle.std.specs.Prelude.{◌≡◌, ◌≢◌, ℕ, ◌≤◌, List, [], ◌∷◌, ◌++◌, length, codes, Some}
use Rattle.edit_model.specs.DomModel.Document.{page_depth}
use Rattle.step_text.specs.PageGrammar.Kind.{page_limit}
use Rattle.step_text.specs.PageGrammar.Page.{Siblings}
use Rattle.step_text.specs.PageGrammar.Reading.{Children, page_reading}
use Rattle.edit_engine.specs.Editing.{Editing}
use Rattle.edit_engine.specs.Views.{document_numbers, history_numbers}
use Rattle.edit_session.specs.Block.{Whole, block_of}
use Rattle.edit_session.specs.Transcript.{input_limit, depth_limit, page_editing, transcript_of, numbers_text, tally_text, document_line, transcript}
use Rattle.edit_session.specs.Words.{Limits, Run, order_of}
use Rattle.edit_session.specs.declared.replay.Tally.{Tally}
use Rattle.edit_session.specs.declared.session.Status.TheVariants.{Done}
use Rattle.replay_laws.specs.ReadBack.{VoidsAreEmpty}
use Rattle.replay_laws.specs.Sessions.{after_lines}
use Rattle.replay_laws.specs.Steps.{StaysShallow}

-- The words ask for a session, and the text is one up to its last line feed: a page block and lines
-- of acts. The page is accepted.
pub record IsSession (words : List (List ℕ)) (session : List ℕ) : Type 0 where
  pub limits : Limits
  pub page : List ℕ
  pub acts : List (List ℕ)
  pub children : Siblings
  pub order : order_of words ≡ Some (Run limits)
  pub block : block_of (session ++ 10 ∷ []) ≡ Whole page acts
  pub reading : page_reading depth_limit limits.cap page ≡ Children children

-- the editor after the acts
unfoldable pub editor_after : (words : List (List ℕ)) (session : List ℕ) → IsSession words session
    → Editing
editor_after words session s =
    after_lines s.limits.denied (page_editing s.limits.cap s.limits.undo s.children) s.acts

-- the session with one line more
abbrev pub with_line : List ℕ → List ℕ → List ℕ
with_line session line = session ++ 10 ∷ (line ++ codes "\n")

-- one line more is answered by this reply more
pub record Answers (words : List (List ℕ)) (session line reply : List ℕ) : Type 0 where
  pub is : transcript words (with_line session line)
      ≡ transcript_of Done ((transcript words (session ++ 10 ∷ [])).text ++ reply)

abbrev pub log_cut : List ℕ
log_cut = codes "! 8 log cut\n"

-- ---- the log

-- `replay` takes every line of a log after a page block, and prints the same HTML as the session, and
-- the same numbers but for the next label, which isn't above that of the session
pub record ReplaysAs (words : List (List ℕ)) (session front log : List ℕ) : Type 0 where
  pub tally : Tally
  pub nodes : ℕ
  pub chars : ℕ
  pub next : ℕ
  pub own : ℕ
  pub edits : ℕ
  pub undo : ℕ
  pub redo : ℕ
  pub html : List ℕ
  pub replayed : transcript (codes "replay" ∷ []) (front ++ 10 ∷ log) ≡ transcript_of Done
      (tally_text tally ++ document_line nodes chars next ++ html ++ codes "\n")
  pub shown : Answers words session (codes "html") (html ++ codes "\n")
  pub counted : Answers words session (codes "stat")
      (document_numbers nodes chars own ++ history_numbers edits undo redo)
  pub bounded : next ≤ own

-- So it is of what the session answers to `log`, where that isn't that the log was cut, and no
-- edit left a document deeper than 1,000; after every block of the session's page.
abbrev pub SessionLogsReplay : Type 0
SessionLogsReplay =
    (words : List (List ℕ)) (session front log : List ℕ) (s : IsSession words session)
    → block_of (front ++ 10 ∷ []) ≡ Whole s.page []
    → length (with_line session (codes "html")) ≤ input_limit
    → Answers words session (codes "log") log → log ≢ log_cut
    → StaysShallow (editor_after words session s)
    → length (front ++ 10 ∷ log) ≤ input_limit → ReplaysAs words session front log

-- ---- the HTML

-- `check` accepts the HTML, and a session on it whose labels have as high a cap prints it again
pub record IsPageAgain (cap : ℕ) (html : List ℕ) : Type 0 where
  pub nodes : ℕ
  pub chars : ℕ
  pub accepted : transcript (codes "check" ∷ []) html ≡ transcript_of Done (numbers_text nodes chars)
  pub again :
      (words : List (List ℕ)) (front : List ℕ) (limits : Limits)
      → order_of words ≡ Some (Run limits)
      → cap ≤ limits.cap → block_of (front ++ 10 ∷ []) ≡ Whole html []
      → length (with_line front (codes "html")) ≤ input_limit
      → Answers words front (codes "html") (html ++ codes "\n")

-- so it is of what a session answers to `html`, where no void element has children, and the depth
-- and the length are those of a page
abbrev pub SessionsReadBack : Type 0
SessionsReadBack =
    (words : List (List ℕ)) (session html : List ℕ) (s : IsSession words session)
    → length (with_line session (codes "html")) ≤ input_limit
    → Answers words session (codes "html") (html ++ codes "\n")
    → VoidsAreEmpty (editor_after words session s).state.trees
    → page_depth (editor_after words session s).state.trees ≤ depth_limit
    → length html ≤ page_limit → IsPageAgain s.limits.cap html
