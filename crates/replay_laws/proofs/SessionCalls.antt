-- Each line of a session makes calls.
use Rattle.std.proofs.Common.{◌≡◌, ℕ, zero, suc, Bool, true, false, codes, List, [], ◌∷◌, ◌++◌, length, Option, Some, None, refl, sym, ap, subst, ◌∙◌, inl, inr}
use Rattle.std.specs.Prelude.{min, if◌then◌else◌}
use Rattle.std.specs.Str.{bytes_eq}
use Rattle.edit_model.specs.LiveRange.declared.places.Pair.{Pair}
use Rattle.step_text.specs.ScriptRead.Acts.{Spells}
use Rattle.step_text.specs.ScriptRead.declared.act.Act.{Act}
use Rattle.step_text.specs.ScriptRead.declared.act.Act.TheVariants as act
use Rattle.step_text.specs.ScriptRead.Reading.{Line, Long, Unknown, Known, line_of}
use Rattle.step_text.proofs.ScriptRead.Values.{spelled_scalars}
use Rattle.inline_value.proofs.ForestChanges.ChangeLists.{each_join}
use Rattle.grammar_laws.specs.Proper.{IsText}
use Rattle.edit_engine.specs.Editing.{Editing, undone, redone, turned_times}
use Rattle.edit_engine.specs.Execution.{Outcome, Refused, Deep, Full, Acted, gated_outcome}
use Rattle.edit_engine.specs.Places.{pair_at, marking}
use Rattle.edit_session.specs.Replies.{replied, select_reply, is_crowded, mark_reply, exec_reply, undo_reply, redo_reply, act_reply, read_reply, line_reply}
use Rattle.edit_session.proofs.Grammars.{rests}
use Rattle.replay_laws.specs.Calls.{Call, ExecGated, Select, Unselect, Mark, Unmark, Undo, Redo, after_outcome, after_selecting, after_marking, called, after_calls, HasText}
use Rattle.replay_laws.specs.Sessions.{after_lines, AreCalls, LinesAreCalls}

-- ---- calls one after another

calls_join : (first last : List Call) (e : Editing) → after_calls (first ++ last) e ≡ after_calls last (after_calls first e)
unfolding after_calls
calls_join [] last e = refl
calls_join (call ∷ first) last e = calls_join first last (called call e)

no_calls : (e : Editing) → AreCalls e e
unfolding after_calls
no_calls e = record { calls = []; texts = tt; is = refl }

one_call : (call : Call) (e after : Editing) → HasText call → called call e ≡ after → AreCalls e after
unfolding after_calls
one_call call e after own is = record { calls = call ∷ []; texts = (own, tt); is = is }

more_calls : (e middle after : Editing) → AreCalls e middle → AreCalls middle after → AreCalls e after
more_calls e middle after first last = record {
  calls = first.calls ++ last.calls;
  texts = each_join HasText first.calls last.calls first.texts last.texts;
  is = calls_join first.calls last.calls e ∙ (ap (after_calls last.calls) first.is ∙ last.is);
}

-- ---- acts

same_select : (e : Editing) (o : Option Pair) → after_selecting e o ≡ (select_reply e o).after
same_select e None = refl
same_select e (Some pair) = refl

same_mark : (e : Editing) (name : List ℕ) (o : Option Pair) → after_marking e name o ≡ (mark_reply e name o).after
same_mark e name None = refl
same_mark e name (Some pair) = by_test (is_crowded e name)
  where
    by_test : (b : Bool) → (if b then e else marking e name pair) ≡ (if b then replied (codes "! 5 too many marks\n") e else replied (codes "ok\n") (marking e name pair)).after
    by_test true = refl
    by_test false = refl

same_exec : (e : Editing) (o : Outcome) → after_outcome e o ≡ (exec_reply e o).after
same_exec e Refused = refl
same_exec e Deep = refl
same_exec e Full = refl
same_exec e (Acted answer after) = refl

undo_calls : (n : ℕ) (e : Editing) → AreCalls e (turned_times n undone e)
unfolding turned_times called
undo_calls zero e = no_calls e
undo_calls (suc n) e = more_calls e (undone e) (turned_times n undone (undone e)) (one_call Undo e (undone e) tt refl) (undo_calls n (undone e))

redo_calls : (n : ℕ) (e : Editing) → AreCalls e (turned_times n redone e)
unfolding turned_times called
redo_calls zero e = no_calls e
redo_calls (suc n) e = more_calls e (redone e) (turned_times n redone (redone e)) (one_call Redo e (redone e) tt refl) (redo_calls n (redone e))

-- the value of an act is a text
value_text : (line name value : List ℕ) → Spells line (act.Exec name value) → IsText value
value_text line name value h = elim h.1 [
  | inl bare ↦ subst (λ (v : List ℕ). IsText v) (sym bare.1) refl
  | inr (bytes, is, spells) ↦ spelled_scalars false bytes value spells
]

act_calls : (denied : List (List ℕ)) (line : List ℕ) (e : Editing) (a : Act) → Spells line a → AreCalls e (act_reply denied e a).after
unfolding undo_reply redo_reply called
act_calls denied line e (act.Select anchor focus) spells = one_call (Select anchor focus) e _ tt (same_select e (pair_at e.state.trees anchor focus))
act_calls denied line e act.Unselect spells = one_call Unselect e _ tt refl
act_calls denied line e (act.Mark name anchor focus) spells = one_call (Mark name anchor focus) e _ tt (same_mark e name (pair_at e.state.trees anchor focus))
act_calls denied line e (act.Unmark name) spells = one_call (Unmark name) e _ tt refl
act_calls denied line e (act.Exec name value) spells = one_call (ExecGated denied name value) e _ (value_text line name value spells) (same_exec e (gated_outcome denied e name value))
act_calls denied line e (act.Query kind name) spells = no_calls e
act_calls denied line e (act.Undo count) spells = undo_calls (min count (length e.history.undo)) e
act_calls denied line e (act.Redo count) spells = redo_calls (min count (length e.history.redo)) e
act_calls denied line e (act.Probe path) spells = no_calls e
act_calls denied line e act.Html spells = no_calls e
act_calls denied line e act.Tree spells = no_calls e
act_calls denied line e act.Points spells = no_calls e
act_calls denied line e act.Stat spells = no_calls e
act_calls denied line e act.Log spells = no_calls e

-- ---- lines

read_calls : (denied : List (List ℕ)) (line : List ℕ) (e : Editing) (meaning : Line) → line_of line ≡ meaning → AreCalls e (read_reply denied e meaning).after
read_calls denied line e Long is = no_calls e
read_calls denied line e Unknown is = no_calls e
read_calls denied line e (Known None) is = no_calls e
read_calls denied line e (Known (Some a)) is = act_calls denied line e a ((rests.acts line (Known (Some a))).0 is).1

line_calls : (denied : List (List ℕ)) (e : Editing) (line : List ℕ) → AreCalls e (line_reply denied e line).after
unfolding line_reply
line_calls denied e line = by_test (bytes_eq line [])
  where
    by_test : (b : Bool) → AreCalls e (if b then replied [] e else read_reply denied e (line_of line)).after
    by_test true = no_calls e
    by_test false = read_calls denied line e (line_of line) refl

pub lines_are_calls : LinesAreCalls
unfolding after_lines
lines_are_calls denied [] e = no_calls e
lines_are_calls denied (line ∷ lines) e =
    more_calls e (line_reply denied e line).after (after_lines denied (line_reply denied e line).after lines) (line_calls denied e line) (lines_are_calls denied lines (line_reply denied e line).after)
