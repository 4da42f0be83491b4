-- The lines of a session, as calls.
use Rattle.std.specs.Prelude.{◌≡◌, ℕ, List, [], ◌∷◌}
use Rattle.inline_value.specs.ForestChanges.Named.{Each}
use Rattle.edit_engine.specs.Editing.{Editing}
use Rattle.edit_session.specs.Replies.{line_reply}
use Rattle.replay_laws.specs.Calls.{Call, HasText, after_calls}

-- the editor after some lines of acts, where the commands of some names are denied
unfoldable pub after_lines : List (List ℕ) → Editing → List (List ℕ) → Editing
after_lines denied e [] = e
after_lines denied e (line ∷ lines) = after_lines denied (line_reply denied e line).after lines

-- calls lead from one editor to the other
pub record AreCalls (e after : Editing) : Type 0 where
  pub calls : List Call
  pub texts : Each HasText calls
  pub is : after_calls calls e ≡ after

-- so it is of lines
abbrev pub LinesAreCalls : Type 0
LinesAreCalls = (denied lines : List (List ℕ)) (e : Editing) → AreCalls e (after_lines denied e lines)
