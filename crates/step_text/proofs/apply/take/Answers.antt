use Rattle.std.proofs.Common.{Ok, sym, subst}
use Rattle.std.proofs.lemmas.Result.{IfOk-at_ok}
use Rattle.edit_steps.specs.Step.{StepFits}
use Rattle.step_text.specs.Planning.{Applies, Plans}
use Rattle.step_text.proofs.Levels.{step_within}
use Rattle.step_text.proofs.Taken.{taken}
use Rattle.step_text.proofs.apply.take.Goals as goal

pub apply-requires : goal.apply-requires
apply-requires c = IfOk-at_ok (λ step. StepFits step c.args.arena.now) c.in_ok-step.was c.requires

pub returns-clause-applies : goal.returns-clause-applies
returns-clause-applies c = λ x plan.
    subst (λ t. Applies {A = Unit {0}} x c.args.arena.now t (Ok tt)) (sym c.apply.ensures.state) (taken x c.args.arena.now c.in_ok-step.step tt (subst (λ r. Plans x c.args.arena.now r) c.in_ok-step.was plan))

pub returns-clause-levels : goal.returns-clause-levels
returns-clause-levels c = λ most low. step_within c.args.planned c.in_ok-step.step c.args.arena.now c.apply.new.arena most c.in_ok-step.was c.apply.ensures.state low
