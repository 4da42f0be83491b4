-- What a call answers that may be told a range, as a status.
use Rattle.std.proofs.Common.{◌≡◌, ℕ, Bool, true, false, List, Option, Some, None, Result, Ok, Err, refl, sym, ap, subst}
use Rattle.std.specs.Prelude.{MatchOption}
use Rattle.command_gate.specs.Denied.{is_denied}
use Rattle.edit_model.specs.LiveRange.declared.places.Pair.{Pair}
use Rattle.edit_engine.specs.Editing.{EditorValue}
use Rattle.edit_engine.specs.Execution.{TellsOnRange, misplaced, outcome_with, replaced_outcome}
use Rattle.edit_engine.specs.Places.{range_in}
use Rattle.edit_engine.specs.declared.answers.Answer.{Answer}
use Rattle.edit_engine.specs.declared.answers.Answer.TheVariants.{Yes, No}
use Rattle.edit_engine.specs.declared.answers.RangeFault.{RangeFault}
use Rattle.edit_engine.specs.declared.answers.RangeFault.TheVariants.{BadPlace, Full, Deep, Memory}
use Rattle.hedit_c.specs.Calls.{ReplaceAnswers, WithAnswers, ranged_status}

pub replace_answers : (found : Option Pair) (answer : Result Answer RangeFault) (old new : EditorValue) (text : List ℕ) → MatchOption found ((answer ≡ Err BadPlace) × (new ≡ old)) (λ range. TellsOnRange answer old.editing new.editing (replaced_outcome old.editing range text)) →
    ReplaceAnswers (ranged_status answer) old.editing new.editing found text
replace_answers None answer old new text h =
    subst (λ (a : Result Answer RangeFault). ReplaceAnswers (ranged_status a) old.editing new.editing None text) (sym h.0) (refl, ap (λ (v : EditorValue). v.editing) h.1)
replace_answers (Some range) (Ok Yes) old new text h = h
replace_answers (Some range) (Ok No) old new text h = h
replace_answers (Some range) (Err BadPlace) old new text h = absurd h
replace_answers (Some range) (Err Full) old new text h = h
replace_answers (Some range) (Err Deep) old new text h = h
replace_answers (Some range) (Err Memory) old new text h = h

pub with_answers : (at : Option (Option Pair)) (range : Option Pair) (answer : Result Answer RangeFault) (old new : EditorValue) (denied : List (List ℕ)) (joined : Bool) (name value : List ℕ) → range_in old.editing.state.trees range ≡ at
    → MatchOption at ((answer ≡ misplaced (is_denied denied name)) × (new ≡ old)) (λ at. TellsOnRange answer old.editing new.editing (outcome_with denied at joined old.editing name value))
    → WithAnswers (ranged_status answer) old.editing new.editing denied range joined name value
with_answers None range answer old new denied joined name value found h =
    subst (λ (a : Result Answer RangeFault). WithAnswers (ranged_status a) old.editing new.editing denied range joined name value) (sym h.0)
    (by_denied (is_denied denied name) refl)
  where
    same : new.editing ≡ old.editing
    same = ap (λ (v : EditorValue). v.editing) h.1

    by_denied : (d : Bool) → is_denied denied name ≡ d → WithAnswers (ranged_status (misplaced d)) old.editing new.editing denied range joined name value
    by_denied true is = rw found (refl, is, same)
    by_denied false is = (found, is, same)
with_answers (Some at) range (Ok Yes) old new denied joined name value found h = rw found h
with_answers (Some at) range (Ok No) old new denied joined name value found h = rw found h
with_answers (Some at) range (Err BadPlace) old new denied joined name value found h = absurd h
with_answers (Some at) range (Err Full) old new denied joined name value found h = rw found h
with_answers (Some at) range (Err Deep) old new denied joined name value found h = rw found h
with_answers (Some at) range (Err Memory) old new denied joined name value found h = h
