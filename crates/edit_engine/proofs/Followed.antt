-- What a host is told of a call leads from the document before it to the document after it.
use Rattle.std.proofs.Common.{◌≡◌, ℕ, ◌<◌, Bool, true, false, cond, true≢false, List, [], ◌∷◌, length, Some, Ok, refl, sym, ap, subst, ◌∙◌, inl, inr, arith}
use Rattle.std.specs.Prelude.{◌↔◌, IsTrue}
use Rattle.edit_model.specs.DomModel.declared.Content.{Content}
use Rattle.edit_model.specs.DomModel.Forest.{Forest}
use Rattle.inline_value.specs.UndoLog.declared.log.Committed.{Committed}
use Rattle.inline_value.specs.UndoLog.declared.log.Committed.TheVariants as committed
use Rattle.edit_model.specs.State.{State}
use Rattle.edit_model.specs.History.{Entry, document_of, rested, undone_state, undone_history, redone_state, redone_history, undone_state_by, undone_history_by, redone_state_by, redone_history_by, at_view}
use Rattle.inline_value.specs.ForestChanges.Change.{Change}
use Rattle.inline_value.specs.EditDoc.Changes.{Lead, changes_past, changes_undone, resumed_at, ChangesLead, UndoneLead}
use Rattle.inline_value.specs.EditDoc.Kept.{HoldsOnlyNeeded, LeadAllBack, LeadAllForth}
use Rattle.inline_value.specs.EditDoc.Whole.{Whole, IsDoc, IsClosed}
use Rattle.edit_engine.specs.declared.following.Following.{Following}
use Rattle.edit_engine.specs.declared.going.Going.{Going}
use Rattle.edit_engine.specs.declared.following.LastChange.TheVariants.{Made}
use Rattle.edit_engine.specs.Following.{changed_by, after_commit, after_undo, after_redo}
use Rattle.edit_engine.specs.Editing.{value_of}
use Rattle.edit_engine.specs.Changes.{CanFollow}
use Rattle.edit_engine.specs.Running.{has_entry, TellsChange}

-- a document that rests stands alone
pub resting_trees : (d : Whole) → IsDoc d → IsClosed d → document_of d.state.trees ≡ d.state.trees
unfolding rested
resting_trees d law closed = ap (λ (s : State). s.trees) (law.resting closed)

-- a command that is made
pub run_followed : (old new : Whole) (going after : Going) (w : Following) (joining : Bool) (kept : ℕ) (c : Committed) → IsDoc old → IsClosed old → TellsChange (Ok (Some c)) old new joining → kept ≡ resumed_at joining old.history.undo → CanFollow (value_of old going w) (value_of new after (after_commit c kept w))
run_followed old new going after w joining kept committed.Entry law closed told is =
    let here : Lead (changes_past (resumed_at joining old.history.undo) new.history.undo) old.state.trees new.state.trees = subst (λ (d : Forest Content). Lead (changes_past (resumed_at joining old.history.undo) new.history.undo) d new.state.trees) (resting_trees old law closed) told in
    inr (refl, subst (λ (k : ℕ). Lead (changes_past k new.history.undo) old.state.trees new.state.trees) (sym is) here)
run_followed old new going after w joining kept committed.Nothing law closed told is =
    inl (refl, told ∙ resting_trees old law closed)

-- a commit tells what its run tells
pub told_commit : (c : Committed) (kept n : ℕ) (edited : Bool) (w : Following) → has_entry c ≡ edited → kept ≡ n → after_commit c kept w ≡ cond edited (changed_by (Made n) w) w
told_commit committed.Entry kept n edited w is same = rw (sym is, same) refl
told_commit committed.Nothing kept n edited w is same = rw (sym is) refl

-- a call that leaves the state
pub kept_followed : (old new : Whole) (going after : Going) (w : Following) → new.state ≡ old.state → CanFollow (value_of old going w) (value_of new after w)
kept_followed old new going after w same = inl (refl, ap (λ (s : State). s.trees) same)

-- ---- undo and redo

-- the document is the one after the entry that undo would take, and before the one that redo would take
undo_after : (d : Whole) (e : Entry) (es : List Entry) → d.history.undo ≡ e ∷ es → HoldsOnlyNeeded d → e.after.document ≡ d.state.trees
undo_after d e es is needed =
    let back = subst (λ (us : List Entry). LeadAllBack needed.0 needed.1 us) is needed.3.undo in
    first needed.1 back ∙ needed.3.document
  where
    first : (xs : List (List Change)) → LeadAllBack needed.0 xs (e ∷ es) → e.after.document ≡ document_of needed.0
    first [] h = absurd h
    first (x ∷ xs) h = h.0.after

redo_before : (d : Whole) (e : Entry) (es : List Entry) → d.history.redo ≡ e ∷ es → HoldsOnlyNeeded d → e.before.document ≡ d.state.trees
redo_before d e es is needed =
    let forth = subst (λ (us : List Entry). LeadAllForth needed.0 needed.2 us) is needed.3.redo in
    first needed.2 forth ∙ needed.3.document
  where
    first : (xs : List (List Change)) → LeadAllForth needed.0 xs (e ∷ es) → e.before.document ≡ document_of needed.0
    first [] h = absurd h
    first (x ∷ xs) h = h.0.before

module _ (old new : Whole) (going after : Going) (w : Following) (needed : HoldsOnlyNeeded old) where
  pub undo_followed : (taken : Bool) → (IsTrue taken ↔ (0 < length old.history.undo)) → new ≡ record old { state = undone_state old.history old.state; history = undone_history old.history } → UndoneLead new.history.redo → CanFollow (value_of old going w) (value_of new after (after_undo taken w))
  unfolding undone_state undone_history at_view
  undo_followed taken answer is lead = by_entries old.history.undo refl taken answer
    where
      by_entries : (us : List Entry) → old.history.undo ≡ us → (t : Bool) → (IsTrue t ↔ (0 < length us)) → CanFollow (value_of old going w) (value_of new after (after_undo t w))
      by_entries [] none true a = absurd (let lt = a.0 refl in omega (arith, lt))
      by_entries [] none false a = inl (refl, ap (λ (d : Whole). d.state.trees) is ∙ ap (λ (us : List Entry). (undone_state_by us old.state).trees) none)
      by_entries (e ∷ es) some false a = absurd (true≢false (sym (a.1 (omega arith))))
      by_entries (e ∷ es) some true a =
          let trees : new.state.trees ≡ e.before.document = ap (λ (d : Whole). d.state.trees) is ∙ ap (λ (us : List Entry). (undone_state_by us old.state).trees) some in
          let redo : new.history.redo ≡ e ∷ old.history.redo = ap (λ (d : Whole). d.history.redo) is ∙ ap (λ (us : List Entry). (undone_history_by us old.history).redo) some in
          let l : UndoneLead (e ∷ old.history.redo) = subst UndoneLead redo lead in
          let from = undo_after old e es some needed in
          inr (
            refl,
            (
                subst (λ (rs : List Entry). Lead (changes_undone rs) old.state.trees new.state.trees) (sym redo)
                (subst (λ (d : Forest Content). Lead (changes_undone (e ∷ old.history.redo)) d new.state.trees) from
                (subst (λ (d : Forest Content). Lead (changes_undone (e ∷ old.history.redo)) e.after.document d) (sym trees) l))),
          )

  pub redo_followed : (taken : Bool) → (IsTrue taken ↔ (0 < length old.history.redo)) → new ≡ record old { state = redone_state old.history old.state; history = redone_history old.history } → ChangesLead new.history.undo → CanFollow (value_of old going w) (value_of new after (after_redo taken w))
  unfolding redone_state redone_history at_view
  redo_followed taken answer is lead = by_entries old.history.redo refl taken answer
    where
      by_entries : (rs : List Entry) → old.history.redo ≡ rs → (t : Bool) → (IsTrue t ↔ (0 < length rs)) → CanFollow (value_of old going w) (value_of new after (after_redo t w))
      by_entries [] none true a = absurd (let lt = a.0 refl in omega (arith, lt))
      by_entries [] none false a = inl (refl, ap (λ (d : Whole). d.state.trees) is ∙ ap (λ (rs : List Entry). (redone_state_by rs old.state).trees) none)
      by_entries (e ∷ es) some false a = absurd (true≢false (sym (a.1 (omega arith))))
      by_entries (e ∷ es) some true a =
          let trees : new.state.trees ≡ e.after.document = ap (λ (d : Whole). d.state.trees) is ∙ ap (λ (rs : List Entry). (redone_state_by rs old.state).trees) some in
          let undo : new.history.undo ≡ e ∷ old.history.undo = ap (λ (d : Whole). d.history.undo) is ∙ ap (λ (rs : List Entry). (redone_history_by rs old.history).undo) some in
          let l : ChangesLead (e ∷ old.history.undo) = subst ChangesLead undo lead in
          let from = redo_before old e es some needed in
          inr (
            refl,
            (
                subst (λ (us : List Entry). Lead (changes_past 0 us) old.state.trees new.state.trees) (sym undo)
                (subst (λ (d : Forest Content). Lead (changes_past 0 (e ∷ old.history.undo)) d new.state.trees) from
                (subst (λ (d : Forest Content). Lead (changes_past 0 (e ∷ old.history.undo)) e.before.document d) (sym trees) l))),
          )
