-- The replies to the lines of a session, and the editor after each.
use Rattle.std.specs.Prelude.{◌≡◌, ℕ, Bool, true, false, not, ◌&&◌, ◌==◌, min, List, [], ◌∷◌, ◌++◌, length, codes, bytes_eq, Option, Some, None, if◌then◌else◌}
use Rattle.std.specs.Option.{unwrap_or}
use Rattle.std.specs.Fmt.{decimal}
use Rattle.edit_model.specs.LiveRange.LivePoints.{has_mark}
use Rattle.edit_model.specs.LiveRange.declared.places.Pair.{Pair}
use Rattle.step_text.specs.EscapedText.Escaped.{escaped_bytes}
use Rattle.script_read.specs.declared.act.Act.{Act}
use Rattle.script_read.specs.declared.act.Act.TheVariants.{Select, Unselect, Mark, Unmark, Exec, Query, Undo, Redo, Probe, Html, Tree, Points, Stat, Log}
use Rattle.script_read.specs.Acts.{is_name}
use Rattle.script_read.specs.Reading.{Line, Long, Unknown, Known, line_of}
use Rattle.inline_value.specs.EditQuery.declared.reply.Reply.{Reply}
use Rattle.inline_value.specs.EditQuery.declared.reply.Reply.TheVariants as reply
use Rattle.edit_engine.specs.declared.answers.ViewKind.{ViewKind}
use Rattle.edit_engine.specs.declared.answers.ViewKind.TheVariants as view
use Rattle.edit_engine.specs.Editing.{Editing, undone, redone, turned_times}
use Rattle.edit_engine.specs.Execution.{Outcome, Refused, Deep, Full, Acted, gated_outcome}
use Rattle.edit_engine.specs.Logs.{log_text}
use Rattle.edit_engine.specs.Places.{pair_at, selecting, unselecting, marking, unmarking}
use Rattle.edit_engine.specs.Queries.{reply_of}
use Rattle.edit_engine.specs.Views.{view_text}

-- what is written, and the editor after it
pub record Replied : Type 0 where
  pub text : List ℕ
  pub after : Editing

abbrev pub replied : List ℕ → Editing → Replied
replied text e = record { text = text; after = e }

abbrev pub truth : Bool → List ℕ
truth b = if b then codes "true\n" else codes "false\n"

-- ---- points

abbrev pub bad_place : List ℕ
bad_place = codes "! 4 bad place\n"

abbrev pub select_reply : Editing → Option Pair → Replied
select_reply e None = replied bad_place e
select_reply e (Some pair) = replied (codes "ok\n") (selecting e pair)

-- 16 other marks are there
abbrev pub is_crowded : Editing → List ℕ → Bool
is_crowded e name = (length e.state.points.marks == 16) && not (has_mark name e.state.points)

abbrev pub mark_reply : Editing → List ℕ → Option Pair → Replied
mark_reply e name None = replied bad_place e
mark_reply e name (Some pair) =
    if is_crowded e name then replied (codes "! 5 too many marks\n") e
    else replied (codes "ok\n") (marking e name pair)

abbrev pub unmark_reply : Editing → List ℕ → Replied
unmark_reply e name = replied (truth (has_mark name e.state.points)) (unmarking e name)

-- ---- commands

abbrev pub exec_reply : Editing → Outcome → Replied
exec_reply e Refused = replied (truth false) e
exec_reply e Deep = replied (codes "! 7 deep\n") e
exec_reply e Full = replied (codes "! 6 full\n") e
exec_reply e (Acted answer after) = replied (truth answer) after

abbrev pub query_text : Reply → List ℕ
query_text (reply.Flag b) = truth b
query_text (reply.Wording text) = codes "= " ++ escaped_bytes text ++ codes "\n"

-- ---- the history: as many entries are taken as are asked for and there

abbrev pub taken : List ℕ → ℕ → List ℕ
taken word count = word ++ decimal count ++ codes "\n"

unfoldable pub undo_reply : Editing → ℕ → Replied
undo_reply e n =
    replied (taken (codes "undo ") (min n (length e.history.undo)))
    (turned_times (min n (length e.history.undo)) undone e)

unfoldable pub redo_reply : Editing → ℕ → Replied
redo_reply e n =
    replied (taken (codes "redo ") (min n (length e.history.redo)))
    (turned_times (min n (length e.history.redo)) redone e)

-- ---- what is printed; a path may name no node

abbrev pub shown : Option (List ℕ) → List ℕ
shown text = unwrap_or text bad_place

abbrev pub view_reply : Editing → ViewKind → Replied
view_reply e kind = replied (shown (view_text e kind)) e

-- ---- the log, which is whole where no entry was dropped

unfoldable pub log_reply : Editing → List ℕ
log_reply e = if e.history.dropped then codes "! 8 log cut\n" else log_text e.history

-- ---- acts; the commands of some names are denied

abbrev pub unknown_act : List ℕ
unknown_act = codes "! 2 unknown act\n"

abbrev pub act_reply : List (List ℕ) → Editing → Act → Replied
act_reply denied e (Select anchor focus) = select_reply e (pair_at e.state.trees anchor focus)
act_reply denied e Unselect = replied (codes "ok\n") (unselecting e)
act_reply denied e (Mark name anchor focus) = mark_reply e name (pair_at e.state.trees anchor focus)
act_reply denied e (Unmark name) = unmark_reply e name
act_reply denied e (Exec name value) = exec_reply e (gated_outcome denied e name value)
act_reply denied e (Query kind name) = replied (query_text (reply_of e.state kind name)) e
act_reply denied e (Undo count) = undo_reply e count
act_reply denied e (Redo count) = redo_reply e count
act_reply denied e (Probe path) = view_reply e (view.Probe path)
act_reply denied e Html = view_reply e view.Html
act_reply denied e Tree = view_reply e view.Tree
act_reply denied e Points = view_reply e view.Points
act_reply denied e Stat = view_reply e view.Stat
act_reply denied e Log = replied (log_reply e) e

-- ---- lines

abbrev pub known_reply : List (List ℕ) → Editing → Option Act → Replied
known_reply denied e None = replied (codes "! 1 syntax\n") e
known_reply denied e (Some act) = act_reply denied e act

abbrev pub read_reply : List (List ℕ) → Editing → Line → Replied
read_reply denied e Long = replied (codes "! 3 long line\n") e
read_reply denied e Unknown = replied unknown_act e
read_reply denied e (Known act) = known_reply denied e act

-- an empty line is no act
unfoldable pub line_reply : List (List ℕ) → Editing → List ℕ → Replied
line_reply denied e line =
    if bytes_eq line [] then replied [] e else read_reply denied e (line_of line)

-- each line is answered by the editor that the earlier lines left
unfoldable pub replies_to : List (List ℕ) → Editing → List (List ℕ) → List ℕ
replies_to denied e [] = []
replies_to denied e (line ∷ lines) = (line_reply denied e line).text
    ++ replies_to denied (line_reply denied e line).after lines

-- the name of a command in an act is one of letters, digits and `-`
abbrev pub IsNamed : Act → Type 0
IsNamed (Exec name value) = is_name name ≡ true
IsNamed (Query kind name) = is_name name ≡ true
IsNamed _ = Unit {0}
