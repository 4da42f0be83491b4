-- What a command comes to without marks and cap.
use Rattle.std.proofs.Common.{◌≡◌, ◌≤◌, ℕ, Bool, true, false, not, cond, List, Option, Some, None, refl, sym, ap, ◌∙◌, subst, arith}
use Rattle.std.specs.Prelude.{nat_lt}
use Rattle.std.proofs.lemmas.Bool.Decides.{nat_tests}
use Rattle.std.specs.Option.{option_map_or}
use Rattle.command_gate.specs.Denied.{is_denied}
use Rattle.edit_model.specs.HtmlNames.Commands.{command_named}
use Rattle.edit_model.specs.HtmlNames.declared.commands.Command.{Command}
use Rattle.edit_model.specs.HtmlNames.declared.commands.Command.TheVariants.{InsertText}
use Rattle.edit_model.specs.DomModel.Document.{page_depth}
use Rattle.edit_model.specs.LiveRange.declared.places.Pair.{Pair}
use Rattle.edit_model.specs.State.{State}
use Rattle.edit_model.specs.History.{rested, begun}
use Rattle.edit_model.specs.Action.{Select}
use Rattle.edit_model.specs.Run.{Run, select}
use Rattle.inline_value.specs.EditActions.ActiveRange.{affected_host}
use Rattle.edit_engine.specs.Commands.{row_of, action_of, is_enabled_in}
use Rattle.edit_engine.specs.Editing.{Editing}
use Rattle.edit_engine.specs.Execution.{Outcome, Refused, Deep, Full, Acted, depth_limit, host_at, run_at, ran, answered, after_run, run_outcome, command_outcome, outcome_by, gated_outcome}
use Rattle.edit_engine.specs.Going.{joins_by}
use Rattle.independence_laws.specs.Unmarked.{unmarked}
use Rattle.independence_laws.specs.Ignoring.{IgnoresMarks}
use Rattle.independence_laws.specs.Editors.{AreSameButMarks, AreAlikeUnlessFull, MarksAreIgnored, MarksAreIgnoredWhereDenied, MarksAreIgnoredAtRanges, CapsOnlyRefuse}
use Rattle.independence_laws.proofs.IgnoringRuns.{ignores_bind, ignores_perform}
use Rattle.independence_laws.proofs.CommandRuns.{ignores_action}

ignores_at : (at : Option Pair) (m : Run Bool) → IgnoresMarks m → IgnoresMarks (run_at at m)
ignores_at None m h = h
ignores_at (Some range) m h =
    ignores_bind (select range.anchor range.focus) (λ _. m) (ignores_perform (Select range.anchor range.focus)) (λ _. h)

host_same : (at : Option Pair) (s : State) → host_at at (unmarked s) ≡ host_at at s
unfolding affected_host
host_same None s = refl
host_same (Some range) s = refl

-- ---- by four tests

by_tests : (refused deep full answer : Bool) (x y : Editing) → Outcome
by_tests refused deep full answer x y =
    cond refused Refused (cond deep Deep (cond full Full (cond answer (Acted true x) (Acted false y))))

tests_alike : (refused deep full filled answer : Bool) (x y z w : Editing) → AreSameButMarks x z → AreSameButMarks y w
    → AreAlikeUnlessFull (by_tests refused deep full answer x y) (by_tests refused deep filled answer z w)
unfolding by_tests
tests_alike true deep full filled answer x y z w made back = tt
tests_alike false true full filled answer x y z w made back = tt
tests_alike false false true filled answer x y z w made back = tt
tests_alike false false false true true x y z w made back = tt
tests_alike false false false true false x y z w made back = tt
tests_alike false false false false true x y z w made back = (refl, made)
tests_alike false false false false false x y z w made back = (refl, back)

tests_full : (refused deep full filled answer : Bool) (x y z w : Editing) → (filled ≡ true → full ≡ true)
    → by_tests refused deep filled answer z w ≡ Full → by_tests refused deep full answer x y ≡ Full
unfolding by_tests
tests_full true deep full filled answer x y z w more t = absurd (let u : Refused ≡ Full = t in cc)
tests_full false true full filled answer x y z w more t = absurd (let u : Deep ≡ Full = t in cc)
tests_full false false true filled answer x y z w more t = refl
tests_full false false false true answer x y z w more t = absurd (let u : false ≡ true = more refl in cc)
tests_full false false false false true x y z w more t = absurd (let u : Acted true z ≡ Full = t in cc)
tests_full false false false false false x y z w more t = absurd (let u : Acted false w ≡ Full = t in cc)

past : (a b n : ℕ) → a ≤ b → nat_lt b n ≡ true → nat_lt a n ≡ true
past a b n le lt = grind (arith, nat_tests)

-- ---- a command

module _ (at : Option Pair) (v : List ℕ) (c : Command) where
  -- the run of the command, and where it ends without marks and cap
  own_run : Run Bool
  own_run = run_at at (action_of c v)

  own_ignores : IgnoresMarks own_run
  unfolding own_run
  own_ignores = ignores_at at (action_of c v) (ignores_action c v)

  end_of : State → State
  end_of s = ran (host_at at s) s (row_of c).keeping own_run

  answer_of : State → Bool
  answer_of s = answered (host_at at s) s (row_of c).keeping own_run

  end_same : (s : State) → end_of (unmarked s) ≡ unmarked (end_of s)
  unfolding end_of begun
  end_same s = ap (λ h. ran h (unmarked s) (row_of c).keeping own_run) (host_same at s) ∙ own_ignores.ends (begun (host_at at s) (row_of c).keeping s)

  answer_same : (s : State) → answer_of (unmarked s) ≡ answer_of s
  unfolding answer_of begun
  answer_same s = ap (λ h. answered h (unmarked s) (row_of c).keeping own_run) (host_same at s) ∙ own_ignores.answers (begun (host_at at s) (row_of c).keeping s)

  after : Editing → Bool → Editing
  after e joining = after_run e joining c (end_of e.state)

  told : Editing → Bool → State → Outcome
  told e joining u =
      by_tests (not (is_enabled_in (host_at at u) c)) (nat_lt depth_limit (page_depth u.trees)) (nat_lt e.state.cap (end_of u).next) (answer_of u) (after e joining) e

  -- what a command comes to is told by the state without marks and cap, by the cap, and by what the
  -- editor then is
  is_told : (e : Editing) (joining : Bool) → command_outcome e at joining v c ≡ told e joining (unmarked e.state)
  unfolding command_outcome run_outcome told by_tests end_of answer_of after own_run
  is_told e joining = λ i.
      by_tests (not (is_enabled_in (sym (host_same at e.state) i) c)) (nat_lt depth_limit (page_depth e.state.trees))
      (nat_lt e.state.cap (sym (end_same e.state) i).next) (sym (answer_same e.state) i) (after e joining) e

  after_same : (e f : Editing) (joining joined : Bool) → AreSameButMarks e f → AreSameButMarks (after e joining) (after f joined)
  unfolding after rested
  after_same e f joining joined same =
      ap rested (sym (end_same e.state)) ∙ (ap (λ u. rested (end_of u)) same ∙ ap rested (end_same f.state))

  same_told : (e f : Editing) (joining joined : Bool) (u : State) → AreSameButMarks (after e joining) (after f joined) → AreSameButMarks e f
      → AreAlikeUnlessFull (told e joining u) (told f joined u)
  unfolding told
  same_told e f joining joined u made back =
      tests_alike (not (is_enabled_in (host_at at u) c)) (nat_lt depth_limit (page_depth u.trees)) (nat_lt e.state.cap (end_of u).next) (nat_lt f.state.cap (end_of u).next) (answer_of u)
      (after e joining) e (after f joined) f made back

  told_full : (e f : Editing) (joining joined : Bool) (u : State) → e.state.cap ≤ f.state.cap → told f joined u ≡ Full → told e joining u ≡ Full
  unfolding told
  told_full e f joining joined u less full =
      tests_full (not (is_enabled_in (host_at at u) c)) (nat_lt depth_limit (page_depth u.trees)) (nat_lt e.state.cap (end_of u).next) (nat_lt f.state.cap (end_of u).next) (answer_of u)
      (after e joining) e (after f joined) f (past e.state.cap f.state.cap (end_of u).next less) full

  command_alike : (e f : Editing) (joining joined : Bool) → AreSameButMarks e f
      → AreAlikeUnlessFull (command_outcome e at joining v c) (command_outcome f at joined v c)
  command_alike e f joining joined same =
      subst (λ o. AreAlikeUnlessFull o (command_outcome f at joined v c)) (sym (is_told e joining))
      (subst (λ o. AreAlikeUnlessFull (told e joining (unmarked e.state)) o) (sym (is_told f joined))
      (subst (λ u. AreAlikeUnlessFull (told e joining (unmarked e.state)) (told f joined u)) same
      (same_told e f joining joined (unmarked e.state) (after_same e f joining joined same) same)))

  command_full : (e f : Editing) (joining joined : Bool) → AreSameButMarks e f → e.state.cap ≤ f.state.cap
      → command_outcome f at joined v c ≡ Full → command_outcome e at joining v c ≡ Full
  command_full e f joining joined same less full =
      is_told e joining ∙ (ap (told e joining) same ∙ told_full e f joining joined (unmarked f.state) less (sym (is_told f joined) ∙ full))

-- ---- by the name of the command

pub marks_ignored : MarksAreIgnored
unfolding outcome_by
marks_ignored joined e f name v same = by_name (command_named name)
  where
    by_name : (o : Option Command)
        → AreAlikeUnlessFull (option_map_or (λ c. command_outcome e None (joins_by joined e.going c) v c) o Refused)
        (option_map_or (λ c. command_outcome f None (joins_by joined f.going c) v c) o Refused)
    by_name None = tt
    by_name (Some c) = command_alike None v c e f (joins_by joined e.going c) (joins_by joined f.going c) same

pub marks_ignored_where_denied : MarksAreIgnoredWhereDenied
unfolding gated_outcome
marks_ignored_where_denied denied e f name v same = by_gate (is_denied denied name)
  where
    by_gate : (b : Bool) → AreAlikeUnlessFull (cond b Refused (outcome_by false e name v)) (cond b Refused (outcome_by false f name v))
    by_gate true = tt
    by_gate false = marks_ignored false e f name v same

pub marks_ignored_at_ranges : MarksAreIgnoredAtRanges
marks_ignored_at_ranges e f range v same =
    command_alike (Some range) v InsertText e f (joins_by false e.going InsertText) (joins_by false f.going InsertText) same

pub caps_refuse : CapsOnlyRefuse
unfolding outcome_by
caps_refuse joined e f name v same less full = by_name (command_named name) full
  where
    by_name : (o : Option Command)
        → option_map_or (λ c. command_outcome f None (joins_by joined f.going c) v c) o Refused ≡ Full
        → option_map_or (λ c. command_outcome e None (joins_by joined e.going c) v c) o Refused ≡ Full
    by_name None t = t
    by_name (Some c) t = command_full None v c e f (joins_by joined e.going c) (joins_by joined f.going c) same less t
