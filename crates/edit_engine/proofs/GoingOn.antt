-- What holds where a command may go on with the last entry: there is one to join.
use Rattle.std.proofs.Common.{◌≡◌, ℕ, zero, suc, ◌<◌, ◌≤◌, length-append, Bool, true, false, cond, eqb, true≢false, List, [], ◌∷◌, length, take, Option, Some, Ok, refl, sym, ap, subst, ◌∙◌, arith}
use Rattle.std.specs.Prelude.{nat_lt, ◌&&◌, ◌||◌, ◌↔◌, IsTrue}
use Rattle.std.proofs.lemmas.Bool.Decides.{nat_tests}
use Rattle.edit_model.specs.HtmlNames.declared.commands.Command.{Command}
use Rattle.inline_value.specs.UndoLog.declared.log.Committed.{Committed}
use Rattle.inline_value.specs.UndoLog.declared.log.Committed.TheVariants as committed
use Rattle.edit_model.specs.State.{State}
use Rattle.edit_model.specs.History.{Entry, History, entry_of, with_entry, joined, joined_in, recorded, undone_state, undone_history, undone_history_by, redone_state, redone_history, redone_history_by}
use Rattle.edit_model.specs.Run.{Run}
use Rattle.inline_value.specs.EditDoc.Changes.{resumed_at}
use Rattle.inline_value.specs.EditDoc.Whole.{Whole, IsDoc, first_edits}
use Rattle.edit_engine.specs.Commands.{row_of, types_text}
use Rattle.edit_engine.specs.declared.following.Following.{Following}
use Rattle.edit_engine.specs.Following.{IsWithin, after_commit, after_undo, after_redo}
use Rattle.edit_engine.specs.Editing.{IsJoinable, IsResting}
use Rattle.edit_engine.specs.Execution.{ran}
use Rattle.edit_engine.specs.Going.{is_typing, goes_on, joins_by, going_after, going_turned}
use Rattle.edit_engine.specs.declared.going.Going.{Going}
use Rattle.edit_engine.specs.declared.going.Going.TheVariants.{Over, Step, Typing}
use Rattle.edit_engine.specs.Running.{IsMade, has_entry, TellsEdits, Ran}

taken_some : (n : ℕ) (e : Entry) (es : List Entry) → 0 < n → 0 < length (take n (e ∷ es))
taken_some zero e es some = absurd (omega (arith, some))
taken_some (suc n) e es some = omega arith

joined_some : (s : State) (es : List Entry) → 0 < length es → 0 < length (joined_in s es)
joined_some s [] some = some
joined_some s (e ∷ es) some = omega arith

module _ (h : History) (began s : State) (depth : 0 < h.depth) where
  with_edits : (j : Bool) → eqb (length s.edits) 0 ≡ false → (j ≡ true → IsJoinable h) → IsJoinable (recorded j began s h)
  unfolding recorded joined with_entry
  with_edits true some joinable = rw some (record { some = joined_some s h.undo (joinable refl).some; last = (joinable refl).last })
  with_edits false some joinable = rw some (record { some = taken_some h.depth (entry_of began s) h.undo depth; last = refl })

  without_edits : (j : Bool) → eqb (length s.edits) 0 ≡ true → IsJoinable h → IsJoinable (recorded j began s h)
  unfolding recorded
  without_edits j none joinable = rw none joinable

  -- where something goes on after the command there is an entry
  pub recorded_joinable : (g : Going) (j : Bool) (c : Command) → (goes_on g ≡ true → IsJoinable h) → (j ≡ true → goes_on g ≡ true) → goes_on (going_after g j c (nat_lt 0 (length s.edits))) ≡ true → IsJoinable (recorded j began s h)
  recorded_joinable g j c joinable joins on = by_edits (eqb (length s.edits) 0) refl
    where
      was_typing : (k : Going) → is_typing k ≡ true → goes_on k ≡ true
      was_typing Over e = e
      was_typing Step e = refl
      was_typing Typing e = refl

      -- without an edit something went on before
      still : (t typing joining : Bool) → (typing ≡ true → goes_on g ≡ true) → (joining ≡ true → goes_on g ≡ true) → goes_on (cond (t && (false || typing)) Typing (cond (false || joining) Step Over)) ≡ true → goes_on g ≡ true
      still true true joining first second e = first refl
      still true false true first second e = second refl
      still true false false first second e = absurd (true≢false (sym e))
      still false typing true first second e = second refl
      still false typing false first second e = absurd (true≢false (sym e))

      by_edits : (b : Bool) → eqb (length s.edits) 0 ≡ b → IsJoinable (recorded j began s h)
      by_edits true none =
          let no_edit : nat_lt 0 (length s.edits) ≡ false = grind (arith, nat_tests, none) in
          let on' : goes_on (going_after g j c false) ≡ true = subst (λ (b : Bool). goes_on (going_after g j c b) ≡ true) no_edit on in
          without_edits j none (joinable (still (types_text c) (is_typing g) j (was_typing g) joins on'))
      by_edits false some = with_edits j some (λ e. joinable (joins e))

-- a command joins only where something goes on
pub joins_on : (joined : Bool) (g : Going) (c : Command) → joins_by joined g c ≡ true → goes_on g ≡ true
joins_on true g c e = e
joins_on false Over c e = e
joins_on false Step c e = refl
joins_on false Typing c e = refl

-- ---- through the history

redone_joinable : (h : History) → IsJoinable h → IsJoinable (redone_history h)
unfolding redone_history
redone_joinable h j = subst (λ (es : List Entry). IsJoinable (redone_history_by es h)) (sym j.last) j

-- where no entry lies that way, the edits that were told stay
undone_within : (old : History) (w : Following) (taken : Bool) → (IsTrue taken ↔ (0 < length old.undo)) → IsWithin w.last old → IsWithin (after_undo taken w).last (undone_history old)
unfolding undone_history
undone_within old w true answer within = tt
undone_within old w false answer within = by_entries old.undo refl
  where
    by_entries : (us : List Entry) → old.undo ≡ us → IsWithin w.last (undone_history_by old.undo old)
    by_entries [] none = subst (λ (es : List Entry). IsWithin w.last (undone_history_by es old)) (sym none) within
    by_entries (e ∷ es) some = absurd (true≢false (sym (answer.1 (let n = ap (λ (xs : List Entry). length xs) some in omega (arith, n)))))

redone_within : (old : History) (w : Following) (taken : Bool) → (IsTrue taken ↔ (0 < length old.redo)) → IsWithin w.last old → IsWithin (after_redo taken w).last (redone_history old)
unfolding redone_history
redone_within old w true answer within = omega arith
redone_within old w false answer within = by_entries old.redo refl
  where
    by_entries : (rs : List Entry) → old.redo ≡ rs → IsWithin w.last (redone_history_by old.redo old)
    by_entries [] none = subst (λ (es : List Entry). IsWithin w.last (redone_history_by es old)) (sym none) within
    by_entries (e ∷ es) some = absurd (true≢false (sym (answer.1 (let n = ap (λ (xs : List Entry). length xs) some in omega (arith, n)))))

pub rests_undone : (old new : Whole) (going : Going) (taken : Bool) (w : Following) → (IsTrue taken ↔ (0 < length old.history.undo)) → new ≡ record old { state = undone_state old.history old.state; history = undone_history old.history } → IsResting old going w → IsResting new (going_turned taken going) (after_undo taken w)
rests_undone old new going taken w answer is rests = record {
  closed = ap (λ (d : Whole). d.began) is ∙ rests.closed;
  joinable = λ on. subst IsJoinable (sym (ap (λ (d : Whole). d.history) is)) (stays taken answer on);
  within = subst (IsWithin (after_undo taken w).last) (sym (ap (λ (d : Whole). d.history) is)) (undone_within old.history w taken answer rests.within);
}
  where
    stays : (t : Bool) → (IsTrue t ↔ (0 < length old.history.undo)) → goes_on (going_turned t going) ≡ true → IsJoinable (undone_history old.history)
    stays true answer on = absurd (true≢false (sym on))
    stays false answer on = absurd (true≢false (sym (answer.1 (rests.joinable on).some)))

pub rests_redone : (old new : Whole) (going : Going) (taken : Bool) (w : Following) → (IsTrue taken ↔ (0 < length old.history.redo)) → new ≡ record old { state = redone_state old.history old.state; history = redone_history old.history } → IsResting old going w → IsResting new (going_turned taken going) (after_redo taken w)
rests_redone old new going taken w answer is rests = record {
  closed = ap (λ (d : Whole). d.began) is ∙ rests.closed;
  joinable = λ on. subst IsJoinable (sym (ap (λ (d : Whole). d.history) is)) (stays taken on);
  within = subst (IsWithin (after_redo taken w).last) (sym (ap (λ (d : Whole). d.history) is)) (redone_within old.history w taken answer rests.within);
}
  where
    stays : (t : Bool) → goes_on (going_turned t going) ≡ true → IsJoinable (redone_history old.history)
    stays true on = absurd (true≢false (sym on))
    stays false on = redone_joinable old.history (rests.joinable on)

-- ---- the edits of an entry before those of a command

first_joined : (t : State) (es : List Entry) → first_edits es ≤ first_edits (joined_in t es)
first_joined t [] = omega arith
first_joined t (e ∷ es) = omega (arith, length-append e.edits t.edits)

kept_within : (j : Bool) (h : History) (b t : State) → eqb (length t.edits) 0 ≡ false → resumed_at j h.undo ≤ first_edits (recorded j b t h).undo
unfolding recorded joined with_entry
kept_within true h b t some = rw some (first_joined t h.undo)
kept_within false h b t some = omega arith

within_recorded : (j : Bool) (h : History) (b t : State) (kept : ℕ) (w : Following) (committed : Committed) → TellsEdits committed t → kept ≡ resumed_at j h.undo → IsWithin w.last h → IsWithin (after_commit committed kept w).last (recorded j b t h)
unfolding recorded
within_recorded j h b t kept w committed.Entry tells is within =
    let some : eqb (length t.edits) 0 ≡ false = grind (arith, nat_tests, tells) in
    let low = kept_within j h b t some in
    subst (λ (k : ℕ). k ≤ first_edits (recorded j b t h).undo) (sym is) low
within_recorded j h b t kept w committed.Nothing tells is within =
    let none : eqb (length t.edits) 0 ≡ true = grind (arith, nat_tests, tells) in
    rw none within

-- ---- a command

module _ (old new : Whole) (going : Going) (host : Option ℕ) (joining : Bool) (c : Command) (m : Run Bool) where
  -- the run is made, and this is what goes on afterwards
  pub record IsTaken (after : Going) : Type 0 where
    pub made : IsMade old new host joining (row_of c).keeping m
    pub goes : after ≡ going_after going joining c (nat_lt 0 (length (ran host old.state (row_of c).keeping m).edits))

  module _ (o : Option Committed) (committed : Committed) (is : o ≡ Some committed) (ran_so : Ran (Ok o) old new host joining (row_of c).keeping m) where
    here : Ran (Ok (Some committed)) old new host joining (row_of c).keeping m
    here = subst (λ (x : Option Committed). Ran (Ok x) old new host joining (row_of c).keeping m) is ran_so

    pub taken : (after : Going) → after ≡ going_after going joining c (has_entry committed) → IsTaken after
    taken after goes = record { made = here.0; goes = goes ∙ ap (λ b. going_after going joining c b) here.1 }

    -- whether the run made an edit
    pub told_edits : TellsEdits committed (ran host old.state (row_of c).keeping m)
    told_edits = here.1

  pub rests_after : (w : Following) (after : Going) (kept : ℕ) (committed : Committed) → IsDoc old → IsResting old going w → (joining ≡ true → goes_on going ≡ true) → IsTaken after → TellsEdits committed (ran host old.state (row_of c).keeping m) → kept ≡ resumed_at joining old.history.undo → IsResting new after (after_commit committed kept w)
  rests_after w after kept committed law rests joins t tells is = record {
    closed = t.made.closed;
    joinable = λ on. subst IsJoinable (sym t.made.history)
        (recorded_joinable old.history old.state (ran host old.state (row_of c).keeping m) law.some_depth going joining c rests.joinable joins (subst (λ (g : Going). goes_on g ≡ true) t.goes on));
    within = subst (IsWithin (after_commit committed kept w).last) (sym t.made.history)
        (within_recorded joining old.history old.state (ran host old.state (row_of c).keeping m) kept w committed tells is rests.within);
  }
