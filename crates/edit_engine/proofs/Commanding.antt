-- One command, from its begin to its end, whatever its run.
use Rattle.std.proofs.Common.{◌≡◌, ◌↔◌, ℕ, zero, suc, ◌<◌, Bool, true, false, List, [], ◌∷◌, length, Option, Some, None, IsSome, Ok, refl, sym, ap, ◌∙◌, subst, arith}
use Rattle.std.specs.Prelude.{nat_lt}
use Rattle.std.proofs.lemmas.Bool.Decides.{nat_tests}
use Rattle.edit_model.specs.DomModel.declared.Content.{Content}
use Rattle.edit_model.specs.DomModel.Forest.{Forest}
use Rattle.inline_value.specs.UndoLog.Turning.{forth}
use Rattle.inline_value.specs.UndoLog.declared.log.Committed.{Committed}
use Rattle.inline_value.specs.UndoLog.declared.log.Committed.TheVariants as committed
use Rattle.edit_model.specs.declared.settings.EditFault.{EditFault}
use Rattle.edit_model.specs.State.{State, IsPastCap}
use Rattle.edit_model.specs.Gives.{Fails}
use Rattle.edit_model.specs.History.{History, begun, document_of, rested}
use Rattle.edit_model.specs.Run.{Run, final, value}
use Rattle.inline_value.specs.ForestChanges.Change.{Change}
use Rattle.inline_value.specs.DocumentEdits.Followed.{followed}
use Rattle.inline_value.specs.DocumentEdits.Told.{told_all}
use Rattle.inline_value.specs.DocumentEdits.declared.edit.DocumentEdit.{DocumentEdit}
use Rattle.inline_value.specs.EditDoc.Changes.{Lead, LeadsSince, IsToldSince}
use Rattle.inline_value.specs.EditDoc.Whole.{Began, Whole, IsOpen, IsDoc, opened, history_committed, state_rolled_back}
use Rattle.inline_value.specs.EditDoc.Held.{Keeps}
use Rattle.edit_engine.specs.Execution.{ran, answered}
use Rattle.edit_engine.specs.Running.{IsMade, IsTakenBack, IsRefused, has_entry, TellsEdits, TellsChange}

pub opened_open : (d new : Whole) (h : Option ℕ) (k j : Bool) → new ≡ opened h k j d → IsOpen new
unfolding opened
opened_open d new h k j is = rw is refl

pub kept_open : (d new : Whole) → IsOpen d → Keeps d new → IsOpen new
kept_open d new is_open keeps = subst (λ o. IsSome o) (sym keeps.began) is_open

by_length : (c : Committed) (n : ℕ) → ((c ≡ committed.Entry) ↔ (0 < n)) → has_entry c ≡ nat_lt 0 n
by_length committed.Entry n h = let some : 0 < n = h.0 refl in grind (arith, nat_tests, some)
by_length committed.Nothing zero h = refl
by_length committed.Nothing (suc n) h = absurd (let e : committed.Nothing ≡ committed.Entry = h.1 (omega arith) in cc)

no_edits : (xs : List Change) → (0 < length xs → ⊥) → xs ≡ []
no_edits [] none = refl
no_edits (x ∷ xs) none = absurd (none (omega arith))

nothing_more : committed.Nothing ≡ committed.Entry → ⊥
nothing_more e = cc

-- where no change was made, the document that is led to is the one that was there
no_changes : (xs : List Change) (f d e : Forest Content) → xs ≡ [] → Lead (told_all xs f) d e → d ≡ e
unfolding told_all forth
no_changes xs f d e none leads = subst (λ (ys : List Change). Lead (told_all ys f) d e) none leads

module _ (old one two : Whole) (host : Option ℕ) (j k : Bool) (m : Run Bool) (begins : one ≡ opened host k j old) (keeps : Keeps one two) where
  began_state : one.state ≡ begun host k old.state
  unfolding opened
  began_state = ap (λ (w : Whole). w.state) begins

  began_is : two.began ≡ Some (record { state = old.state; resumed = j })
  unfolding opened
  began_is = keeps.began ∙ ap (λ (w : Whole). w.began) begins

  history_is : two.history ≡ old.history
  unfolding opened
  history_is = keeps.history ∙ ap (λ (w : Whole). w.history) begins

  ends_at : final m one.state ≡ two.state → two.state ≡ ran host old.state k m
  ends_at ends = sym ends ∙ ap (final m) began_state

  answers : (b : Bool) → value m one.state ≡ b → answered host old.state k m ≡ b
  answers b is = sym (ap (value m) began_state) ∙ is

  within : final m one.state ≡ two.state → IsDoc two → IsPastCap (ran host old.state k m) → ⊥
  within ends law o =
      let o' : IsPastCap two.state = subst IsPastCap (sym (ends_at ends)) o in
      let capped = law.capped in
      let past = o'.past in
      absurd (omega (arith, capped, past))

  taken_back : (three : Whole) → three.state ≡ state_rolled_back two → three.history ≡ two.history → three.began ≡ None → IsTakenBack old three
  unfolding state_rolled_back
  taken_back three state history closed = record { state = state ∙ rw began_is refl; history = history ∙ history_is; closed = closed }

  pub made : (three : Whole) → final m one.state ≡ two.state → value m one.state ≡ true → IsDoc two → three.state ≡ rested two.state → three.history ≡ history_committed two → three.began ≡ None → IsMade old three host j k m
  unfolding history_committed
  made three ends is law state history closed =
      let at = ends_at ends in
      record {
        state = state ∙ ap rested at;
        history = history ∙ rw (began_is, history_is, at) refl;
        closed = closed;
        answer = answers true is;
        within = within ends law;
      }

  pub tells_edits : (c : Committed) → final m one.state ≡ two.state → ((c ≡ committed.Entry) ↔ (0 < length two.state.edits)) → TellsEdits c (ran host old.state k m)
  tells_edits c ends answer = subst (λ (s : State). TellsEdits c s) (ends_at ends) (by_length c (length two.state.edits) answer)

  pub refused : (three : Whole) → final m one.state ≡ two.state → value m one.state ≡ false → IsDoc two → three.state ≡ state_rolled_back two → three.history ≡ two.history → three.began ≡ None → IsRefused old three host k m
  refused three ends is law state history closed = record { back = taken_back three state history closed; answer = answers false is; within = within ends law }

  pub failed : (three : Whole) (fault : EditFault) → Fails fault (final m one.state) → three.state ≡ state_rolled_back two → three.history ≡ two.history → three.began ≡ None → IsTakenBack old three × Fails fault (ran host old.state k m)
  failed three fault fails state history closed = (taken_back three state history closed, subst (λ s. Fails fault (final m s)) began_state fails)

  -- what a host is told of the command
  pub tells_change : (three : Whole) (c : Committed) → LeadsSince two.began two.state → (0 < length two.state.edits → IsToldSince two.began two.state two.history.undo three.history.undo) → ((c ≡ committed.Entry) ↔ (0 < length two.state.edits)) → three.state ≡ rested two.state → TellsChange (Ok (Some c)) old three j
  unfolding rested
  tells_change three committed.Entry leads told answer state =
      let b : Option Began = Some (record { state = old.state; resumed = j }) in
      let l : LeadsSince b two.state = subst (λ (o : Option Began). LeadsSince o two.state) began_is leads in
      let here : IsToldSince two.began two.state old.history.undo three.history.undo = subst (λ (h : History). IsToldSince two.began two.state h.undo three.history.undo) history_is (told (answer.0 refl)) in
      let t : IsToldSince b two.state old.history.undo three.history.undo = subst (λ (o : Option Began). IsToldSince o two.state old.history.undo three.history.undo) began_is here in
      ap (λ (edits : List DocumentEdit). forth followed edits (document_of old.state.trees)) t ∙ l ∙ ap (λ (s : State). s.trees) (sym state)
  tells_change three committed.Nothing leads told answer state =
      let b : Option Began = Some (record { state = old.state; resumed = j }) in
      let l : LeadsSince b two.state = subst (λ (o : Option Began). LeadsSince o two.state) began_is leads in
      let none : two.state.edits ≡ [] = no_edits two.state.edits (λ some. nothing_more (answer.1 some)) in
      ap (λ (s : State). s.trees) state ∙ sym (no_changes two.state.edits _ (document_of old.state.trees) (document_of two.state.trees) none l)
