-- What a run comes to, told of an editor's document, and which of the outcomes comes first.
use Rattle.std.proofs.Common.{◌≡◌, ℕ, Bool, true, false, List, length, Option, Some, None, Result, Ok, Err, refl, sym, ap, inl, arith}
use Rattle.std.specs.Prelude.{nat_lt, MatchOption}
use Rattle.std.proofs.lemmas.Bool.Decides.{nat_tests}
use Rattle.command_gate.specs.Denied.{is_denied}
use Rattle.edit_model.specs.LiveRange.declared.places.Pair.{Pair}
use Rattle.edit_model.specs.HtmlNames.Commands.{command_named}
use Rattle.edit_model.specs.HtmlNames.declared.commands.Command.{Command}
use Rattle.edit_model.specs.DomModel.Document.{page_depth}
use Rattle.edit_model.specs.State.{State, IsPastCap}
use Rattle.edit_model.specs.Gives.{Fails}
use Rattle.edit_model.specs.declared.settings.EditFault.{EditFault}
use Rattle.edit_model.specs.declared.settings.EditFault.TheVariants as edit
use Rattle.edit_model.specs.History.{begun}
use Rattle.edit_model.specs.Run.{Run}
use Rattle.edit_model.proofs.Steps.{final_cap}
use Rattle.inline_value.specs.EditDoc.Whole.{Whole}
use Rattle.edit_engine.specs.Commands.{row_of, action_of, is_enabled_in}
use Rattle.edit_engine.specs.Editing.{Editing, EditorValue}
use Rattle.edit_engine.specs.Execution.{Outcome, Refused, Deep, Acted, host_at, run_at, ran, run_outcome, command_outcome, outcome_at, outcome_by, outcome_with, gated_outcome, misplaced, Tells, TellsOnRange}
use Rattle.edit_engine.specs.Going.{going_after}
use Rattle.edit_engine.specs.declared.going.Going.{Going}
use Rattle.edit_engine.specs.declared.answers.Answer.{Answer}
use Rattle.edit_engine.specs.declared.answers.Answer.TheVariants.{No}
use Rattle.edit_engine.specs.declared.answers.ExecFault.{ExecFault}
use Rattle.edit_engine.specs.declared.answers.ExecFault.TheVariants as exec
use Rattle.edit_engine.specs.declared.answers.RangeFault.{RangeFault}
use Rattle.edit_engine.specs.Faults.{exec_fault, range_fault}
use Rattle.edit_engine.specs.Running.{IsMade, IsTakenBack, IsRefused}

-- the editor of a document
abbrev pub shown : Whole → Going → Editing
shown w going = record { state = w.state; history = w.history; going = going }

-- ---- runs

ran_cap : (host : Option ℕ) (s : State) (k : Bool) (m : Run Bool) → (ran host s k m).cap ≡ s.cap
unfolding begun
ran_cap host s k m = final_cap m (begun host k s)

not_over : (host : Option ℕ) (s : State) (k : Bool) (m : Run Bool) → (IsPastCap (ran host s k m) → ⊥) → nat_lt s.cap (ran host s k m).next ≡ false
not_over host s k m off = by_test (nat_lt s.cap (ran host s k m).next) refl
  where
    by_test : (b : Bool) → nat_lt s.cap (ran host s k m).next ≡ b → b ≡ false
    by_test true e = absurd (off (record { past = (let c = ran_cap host s k m in rw c (grind (arith, nat_tests, e))) }))
    by_test false e = refl

over : (host : Option ℕ) (s : State) (k : Bool) (m : Run Bool) → IsPastCap (ran host s k m) → nat_lt s.cap (ran host s k m).next ≡ true
over host s k m is = let c = ran_cap host s k m in let past = is.past in grind (arith, nat_tests, c, past)

same_editor : (old new : Whole) (going : Going) → IsTakenBack old new → shown new going ≡ shown old going
same_editor old new going back = rw (back.state, back.history) refl

module _ (old new : Whole) (going : Going) (host : Option ℕ) (joining : Bool) (c : Command) (m : Run Bool) where
  pub made_outcome : (after : Going) → IsMade old new host joining (row_of c).keeping m → after ≡ going_after going joining c (nat_lt 0 (length (ran host old.state (row_of c).keeping m).edits)) → run_outcome (shown old going) host joining c m ≡ Acted true (shown new after)
  unfolding run_outcome
  made_outcome after is goes = let n = not_over host old.state (row_of c).keeping m is.within in rw (n, is.answer, is.state, is.history, goes) refl

  pub refused_tells : IsRefused old new host (row_of c).keeping m → (run_outcome (shown old going) host joining c m ≡ Acted false (shown new going)) × (shown new going ≡ shown old going)
  unfolding run_outcome
  refused_tells is =
      let n = not_over host old.state (row_of c).keeping m is.within in
      let same = same_editor old new going is.back in
      (rw (n, is.answer, same) refl, same)

  pub failed_tells : (fault : EditFault) → IsTakenBack old new → Fails fault (ran host old.state (row_of c).keeping m) → Tells (Err (exec_fault fault)) (shown old going) (shown new going) (run_outcome (shown old going) host joining c m)
  unfolding run_outcome
  failed_tells edit.Full back fails = (let o = over host old.state (row_of c).keeping m fails in rw o refl, same_editor old new going back)
  failed_tells edit.Memory back fails = same_editor old new going back

-- ---- which comes first

module _ (e : Editing) (at : Option Pair) (joining : Bool) (v : List ℕ) (c : Command) where
  pub refused_outcome : is_enabled_in (host_at at e.state) c ≡ false → command_outcome e at joining v c ≡ Refused
  unfolding command_outcome
  refused_outcome off = rw off refl

  pub deep_outcome : is_enabled_in (host_at at e.state) c ≡ true → nat_lt 250 (page_depth e.state.trees) ≡ true → command_outcome e at joining v c ≡ Deep
  unfolding command_outcome
  deep_outcome on deep = rw (on, deep) refl

  pub runs_outcome : is_enabled_in (host_at at e.state) c ≡ true → nat_lt 250 (page_depth e.state.trees) ≡ false → command_outcome e at joining v c ≡ run_outcome e (host_at at e.state) joining c (run_at at (action_of c v))
  unfolding command_outcome
  runs_outcome on shallow = rw (on, shallow) refl

-- ---- of a call that may be told a range

-- its answer, by that of its command
abbrev pub on_range_by : Result Answer ExecFault → Result Answer RangeFault
on_range_by (Ok answer) = Ok answer
on_range_by (Err fault) = Err (range_fault fault)

pub tells_on_range : (r : Result Answer ExecFault) (old new : Editing) (o : Outcome) → Tells r old new o → TellsOnRange (on_range_by r) old new o
tells_on_range (Ok answer) old new o tells = tells
tells_on_range (Err exec.Full) old new o tells = tells
tells_on_range (Err exec.Deep) old new o tells = tells
tells_on_range (Err exec.Memory) old new o tells = tells

-- ---- with names that are denied

pub denied_outcome : (denied : List (List ℕ)) (e : Editing) (name v : List ℕ) → is_denied denied name ≡ true → gated_outcome denied e name v ≡ Refused
unfolding gated_outcome
denied_outcome denied e name v is = rw is refl

pub allowed_outcome : (denied : List (List ℕ)) (e : Editing) (name v : List ℕ) → is_denied denied name ≡ false → gated_outcome denied e name v ≡ outcome_at None false e (command_named name) v
unfolding gated_outcome outcome_by
allowed_outcome denied e name v is = rw is refl

module _ (denied : List (List ℕ)) (at : Option Pair) (joined : Bool) (e : Editing) (name v : List ℕ) where
  pub denied_with : is_denied denied name ≡ true → outcome_with denied at joined e name v ≡ Refused
  unfolding outcome_with
  denied_with is = rw is refl

  pub allowed_with : is_denied denied name ≡ false → outcome_with denied at joined e name v ≡ outcome_at at joined e (command_named name) v
  unfolding outcome_with
  allowed_with is = rw is refl

-- a denied name is refused, wherever the command was to work
pub denied_tells : (o : Option (Option Pair)) (v : EditorValue) (denied : List (List ℕ)) (joined : Bool) (name value : List ℕ) → is_denied denied name ≡ true
    → MatchOption o ((Ok No ≡ misplaced (is_denied denied name)) × (v ≡ v)) (λ at. TellsOnRange (Ok No) v.editing v.editing (outcome_with denied at joined v.editing name value))
denied_tells None v denied joined name value is = (ap misplaced (sym is), refl)
denied_tells (Some at) v denied joined name value is = (inl (denied_with denied at joined v.editing name value is), refl)
