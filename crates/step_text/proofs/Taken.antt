-- What it takes for a line to be applied: a step that fits, or a node that is made.
use Rattle.std.proofs.Common.{◌≡◌, ℕ, true, false, true≢false, ◌&&◌, Some, None, IfSome, Result, Ok, Err, refl, sym, ap, subst, ◌∙◌}
use Rattle.std.specs.Prelude.{IfNone, IfOk, OnErr, IsErrOf, IsOkUnless, nat_le, nat_lt}
use Rattle.std.specs.Result.{is_err}
use Rattle.page_grammar.specs.DomModel.ArenaState.{ArenaState}
use Rattle.edit_steps.specs.declared.step.Step.{Step}
use Rattle.edit_steps.specs.Step.{step_applied}
use Rattle.edit_steps.specs.NodeArena.declared.NodeRef.{NodeRef}
use Rattle.edit_steps.specs.NodeArena.Held.{Makes}
use Rattle.step_text.specs.declared.line.Made.{Made}
use Rattle.step_text.specs.declared.line.StepFault.{StepFault}
use Rattle.step_text.specs.declared.line.StepFault.TheVariants.{BadLabel, Memory}
use Rattle.step_text.specs.declared.line.StepLine.{StepLine}
use Rattle.step_text.specs.declared.line.StepLine.TheVariants.{Entry, Make}
use Rattle.step_text.specs.Applying.{labelled, fault_of, has_labels, has_place, has_room, line_applied, made_content, trees_after}
use Rattle.step_text.specs.Planning.{Applies, IsStepOf}
use Rattle.step_text.proofs.Fitting.{bad_label, fine}

module _ {A : Type 0} (x : StepLine) (a : ArenaState) where
  pub refusal : (fault : StepFault) → fault_of x (labelled a) ≡ Some fault → Applies {A = A} x a a (Err fault)
  refusal fault h = record {
    refused = subst (λ o. IfSome o (λ e. IsErrOf {T = A} (Err fault) e)) (sym h) refl;
    taken = subst (λ o. IfNone o (IsOkUnless {T = A} (Err fault) Memory)) (sym h) tt;
    applied = tt;
    held = tt;
    err = refl;
  }

  pub failure : fault_of x (labelled a) ≡ None → Applies {A = A} x a a (Err Memory)
  failure h = record {
    refused = subst (λ o. IfSome o (λ e. IsErrOf {T = A} (Err Memory) e)) (sym h) tt;
    taken = subst (λ o. IfNone o (IsOkUnless {T = A} (Err Memory) Memory)) (sym h) refl;
    applied = tt;
    held = tt;
    err = refl;
  }

  pub taken : (step : Step) (value : A) → IsStepOf x a step → Applies x a (step_applied step a) (Ok value)
  unfolding step_applied line_applied
  taken step value h = record {
    refused = subst (λ o. IfSome o (λ e. IsErrOf {E = StepFault} (Ok value) e)) (sym h.fine) tt;
    taken = subst (λ o. IfNone o (IsOkUnless (Ok value) Memory)) (sym h.fine) tt;
    applied = λ i. record { trees = sym h.trees i; next = sym h.next i; cap = a.cap };
    held = λ r here. here;
    err = tt;
  }

make_fine : (l : ℕ) (made : Made) (a : ArenaState) → (nat_le a.next l && nat_lt l a.cap) ≡ true → fault_of (Make l made) (labelled a) ≡ None
unfolding has_labels has_place has_room
make_fine l made a may = fine (Make l made) (labelled a) may refl refl

module _ {A : Type 0} (l : ℕ) (made : Made) (a : ArenaState) where
  pub make_refused : (nat_le a.next l && nat_lt l a.cap) ≡ false → Applies {A = A} (Make l made) a a (Err BadLabel)
  unfolding has_labels
  make_refused off = refusal (Make l made) a BadLabel (bad_label (Make l made) (labelled a) off)

  pub make_failed : (nat_le a.next l && nat_lt l a.cap) ≡ true → Applies {A = A} (Make l made) a a (Err Memory)
  make_failed may = failure (Make l made) a (make_fine l made a may)

  pub make_done : (now : ArenaState) (r : NodeRef) (value : A) → (nat_le a.next l && nat_lt l a.cap) ≡ true → Makes (record a { next = l }) now r (made_content made) → Applies (Make l made) a now (Ok value)
  unfolding line_applied trees_after
  make_done now r value may m = record {
    refused = subst (λ o. IfSome o (λ e. IsErrOf {E = StepFault} (Ok value) e)) (sym (make_fine l made a may)) tt;
    taken = subst (λ o. IfNone o (IsOkUnless (Ok value) Memory)) (sym (make_fine l made a may)) tt;
    applied = λ i. record { trees = m.trees i; next = m.next i; cap = m.cap i };
    held = m.keeps;
    err = tt;
  }

pub entry_taken : {A : Type 0} (a : ArenaState) (value : A) → Applies Entry a a (Ok value)
unfolding has_labels has_place has_room line_applied trees_after
entry_taken {A} a value =
    let h = fine Entry (labelled a) refl refl refl in
    record {
      refused = subst (λ o. IfSome o (λ e. IsErrOf {E = StepFault} (Ok value) e)) (sym h) tt;
      taken = subst (λ o. IfNone o (IsOkUnless (Ok value) Memory)) (sym h) tt;
      applied = refl;
      held = λ r here. here;
      err = tt;
    }

-- ---- what a test of a result tells

pub at_err : {A E : Type 0} {P : Type 0} (r : Result A E) → is_err r ≡ true → OnErr r P → P
at_err (Ok value) test h = absurd (true≢false (sym test))
at_err (Err e) test h = h

pub at_ok : {A E : Type 0} (P : A → Type 0) (r : Result A E) → is_err r ≡ false → IfOk r P → (value : A) × P value
at_ok P (Ok value) test h = (value, h)
at_ok P (Err e) test h = absurd (true≢false test)

-- the next label set on and back again
pub set_back : (old skipped failed now : ArenaState) (l n : ℕ) → skipped ≡ record old { next = l } → failed ≡ skipped → n ≡ old.next → now ≡ record failed { next = n } → now ≡ old
set_back old skipped failed now l n on same is back =
    back ∙ (ap (λ (s : ArenaState). record s { next = n }) (same ∙ on) ∙ ap (λ (k : ℕ). record old { next = k }) is)
