use Rattle.std.proofs.Common.{◌≡◌, ◌∙◌, sym, subst}
use Rattle.edit_model.specs.DomModel.ArenaState.{ArenaState as Arena}
use Rattle.step_edits.specs.EditSteps.Step.{StepFits, step_applied, step_inverse}
use Rattle.step_edits.specs.EditSteps.StepLaws.{step_fits_again, step_state_again}
use Rattle.edit_doc.specs.Counted.{IsCounted}
use Rattle.edit_doc.proofs.counted_arena.CountedArena.change.Goals as goal

pub apply-requires-in-Err : goal.apply-requires-in-Err
apply-requires-in-Err c =
    let a = c.args.self.now.arena in
    let x = c.args.change in
    let step : c.in-Err.step ≡ step_inverse x a = c.in-Err.ensures.err.0 ∙ c.apply.ensures.step in
    subst (λ s. StepFits s c.apply.new.arena) (sym step) (subst (StepFits (step_inverse x a)) (sym c.apply.ensures.state) (step_fits_again x a c.requires.fits))

pub returns-in-Err-clause-err : goal.returns-in-Err-clause-err
returns-in-Err-clause-err c =
    let a = c.args.self.now.arena in
    let x = c.args.change in
    let step : c.in-Err.step ≡ step_inverse x a = c.in-Err.ensures.err.0 ∙ c.apply.ensures.step in
    (c.apply-in-Err.ensures.state ∙ ((λ i. step_applied (step i) (c.apply.ensures.state i)) ∙ step_state_again x a c.requires.fits), c.in-Err.ensures.err.1)

pub invariant_of-self-in-Err : goal.invariant_of-self-in-Err
invariant_of-self-in-Err c =
    let a = c.args.self.now.arena in
    let x = c.args.change in
    let step : c.in-Err.step ≡ step_inverse x a = c.in-Err.ensures.err.0 ∙ c.apply.ensures.step in
    let same = c.apply-in-Err.ensures.state ∙ ((λ i. step_applied (step i) (c.apply.ensures.state i)) ∙ step_state_again x a c.requires.fits) in
    record { counted = subst (λ (b : Arena). IsCounted b.trees c.args.self.now.counts) (sym same) c.args.self.now.counted }
