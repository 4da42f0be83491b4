-- What the clauses of the editor's calls say is what the definition of calls says.
use Rattle.std.proofs.Common.{◌≡◌, ◌⊎◌, ℕ, Bool, true, false, true≢false, cond, eqb, not, List, length, Option, Some, None, Result, Ok, Err, refl, sym, ap, ◌∙◌, inl, inr}
use Rattle.std.specs.Prelude.{MatchOption}
use Rattle.std.proofs.lemmas.Bool.{and_parts, not-true, eqb-true}
use Rattle.command_gate.specs.Denied.{is_denied}
use Rattle.edit_model.specs.LiveRange.LivePoints.{has_mark}
use Rattle.edit_model.specs.LiveRange.declared.places.Pair.{Pair}
use Rattle.edit_engine.specs.declared.answers.Answer.{Answer}
use Rattle.edit_engine.specs.declared.answers.Answer.TheVariants.{Yes, No}
use Rattle.edit_engine.specs.declared.answers.ExecFault.{ExecFault}
use Rattle.edit_engine.specs.declared.answers.ExecFault.TheVariants as fault
use Rattle.edit_engine.specs.declared.answers.PlaceFault.{PlaceFault}
use Rattle.edit_engine.specs.declared.answers.PlaceFault.TheVariants.{BadPlace, TooManyMarks}
use Rattle.edit_engine.specs.declared.answers.RangeFault.{RangeFault}
use Rattle.edit_engine.specs.declared.answers.RangeFault.TheVariants as range_fault
use Rattle.edit_engine.specs.Editing.{Editing, EditorValue}
use Rattle.edit_engine.specs.Execution.{Outcome, outcome, joined_outcome, gated_outcome, replaced_outcome, outcome_with, misplaced, Tells, TellsOnRange}
use Rattle.edit_engine.specs.Places.{pair_at, placed_pair, range_in, marking, IsCrowded}
use Rattle.edit_session.specs.Replies.{is_crowded}
use Rattle.replay_laws.specs.Calls.{after_outcome, after_options, after_replacing, after_selecting, after_marking, called}
use Rattle.replay_laws.specs.Clauses.{Selects, Marks, ClausesAreCalls}

-- the second editor is one that is told, or the first
abbrev IsOne : Editing → Editing → Editing → Type 0
IsOne told old new = (new ≡ old) ⊎ (new ≡ told)

told : (r : Result Answer ExecFault) (old new : Editing) (o : Outcome) → Tells r old new o → IsOne (after_outcome old o) old new
told (Ok Yes) old new o h = inr (sym (ap (after_outcome old) h))
told (Ok No) old new o h = inl h.1
told (Err fault.Full) old new o h = inl h.1
told (Err fault.Deep) old new o h = inl h.1
told (Err fault.Memory) old new o h = inl h

told_on_range : (r : Result Answer RangeFault) (old new : Editing) (o : Outcome) → TellsOnRange r old new o → IsOne (after_outcome old o) old new
told_on_range (Ok answer) old new o h = told (Ok answer) old new o h
told_on_range (Err range_fault.BadPlace) old new o h = absurd h
told_on_range (Err range_fault.Full) old new o h = told (Err fault.Full) old new o h
told_on_range (Err range_fault.Deep) old new o h = told (Err fault.Deep) old new o h
told_on_range (Err range_fault.Memory) old new o h = told (Err fault.Memory) old new o h

with_options : (r : Result Answer RangeFault) (old new : EditorValue) (denied : List (List ℕ)) (joined : Bool) (name value : List ℕ) (o : Option (Option Pair))
    → MatchOption o ((r ≡ misplaced (is_denied denied name)) × (new ≡ old)) (λ at. TellsOnRange r old.editing new.editing (outcome_with denied at joined old.editing name value))
    → IsOne (after_options denied joined old.editing name value o) old.editing new.editing
with_options r old new denied joined name value None h = inl (ap (λ (v : EditorValue). v.editing) h.1)
with_options r old new denied joined name value (Some at) h = told_on_range r old.editing new.editing (outcome_with denied at joined old.editing name value) h

replaced : (r : Result Answer RangeFault) (old new : EditorValue) (text : List ℕ) (o : Option Pair)
    → MatchOption o ((r ≡ Err range_fault.BadPlace) × (new ≡ old)) (λ range. TellsOnRange r old.editing new.editing (replaced_outcome old.editing range text))
    → IsOne (after_replacing old.editing text o) old.editing new.editing
replaced r old new text None h = inl (ap (λ (v : EditorValue). v.editing) h.1)
replaced r old new text (Some range) h = told_on_range r old.editing new.editing (replaced_outcome old.editing range text) h

selected : (r : Result (Unit {0}) PlaceFault) (old new : EditorValue) (o : Option Pair) → Selects o r old new → IsOne (after_selecting old.editing o) old.editing new.editing
selected r old new None h = inl (ap (λ (v : EditorValue). v.editing) h.1)
selected r old new (Some pair) h = inr h.1

crowded : (e : Editing) (name : List ℕ) → is_crowded e name ≡ true → IsCrowded e name
crowded e name t =
    let parts = and_parts (eqb (length e.state.points.marks) 16) (not (has_mark name e.state.points)) t in
    record { full = eqb-true (length e.state.points.marks) 16 parts.0; new = not-true (has_mark name e.state.points) parts.1 }

marked : (r : Result (Unit {0}) PlaceFault) (old new : EditorValue) (name : List ℕ) (o : Option Pair) → Marks o name r old new → IsOne (after_marking old.editing name o) old.editing new.editing
marked (Err fault) old new name o h = inl (ap (λ (v : EditorValue). v.editing) h.err)
marked (Ok done) old new name None h = absurd (let p = h.marked in let e : ◌≡◌ {A = Option Pair} None (Some p.0) = p.1 in cc)
marked (Ok done) old new name (Some pair) h = by_test (is_crowded old.editing name) refl
  where
    no_fault : (f : PlaceFault) → ◌≡◌ {A = Result (Unit {0}) PlaceFault} (Ok done) (Err f) → is_crowded old.editing name ≡ false
    no_fault f e = absurd (let t = e in cc)

    by_test : (b : Bool) → is_crowded old.editing name ≡ b → IsOne (cond b old.editing (marking old.editing name pair)) old.editing new.editing
    by_test true t = absurd (true≢false (sym t ∙ elim (h.crowded (crowded old.editing name t)) [ inl e ↦ no_fault BadPlace e | inr e ↦ no_fault TooManyMarks e ]))
    by_test false t =
        let p = h.marked in
        let same : Some pair ≡ Some p.0 = p.1 in
        let own : pair ≡ p.0 = cc in
        inr (p.2 ∙ ap (marking old.editing name) (sym own))

pub clauses_are_calls : ClausesAreCalls
unfolding called
clauses_are_calls = record {
  exec = λ r old new name value h. told r old new (outcome old name value) h;
  exec_joined = λ r old new name value h. told r old new (joined_outcome old name value) h;
  exec_gated = λ r old new denied name value h. told r old new (gated_outcome denied old name value) h;
  exec_with = λ r old new denied range joined name value h. with_options r old new denied joined name value (range_in old.editing.state.trees range) h;
  replace = λ r old new anchor focus text h. replaced r old new text (placed_pair old.editing.state.trees anchor focus) h;
  select = λ r old new anchor focus h. selected r old new (pair_at old.editing.state.trees anchor focus) h;
  select_points = λ r old new anchor focus h. selected r old new (placed_pair old.editing.state.trees anchor focus) h;
  unselect = λ old new h. inr h;
  mark = λ r old new name anchor focus h. marked r old new name (pair_at old.editing.state.trees anchor focus) h;
  mark_points = λ r old new name anchor focus h. marked r old new name (placed_pair old.editing.state.trees anchor focus) h;
  unmark = λ old new name h. inr h;
  undo = λ old new h. inr h;
  redo = λ old new h. inr h;
}
