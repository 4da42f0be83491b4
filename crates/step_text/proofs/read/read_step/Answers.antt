use Rattle.std.proofs.Common.{inl, Ok, ap, sym}
use Rattle.step_text.proofs.Steps.{exit_spelled, exit_syntax, refused, read_is_only}
use Rattle.step_text.proofs.read.read_step.Goals as goal

pub returns-in_err-step-clause-spelled : goal.returns-in_err-step-clause-spelled
returns-in_err-step-clause-spelled c = exit_spelled c.args.line.now c.from_residual.result c.in_err-step.field-0.0 c.from_residual.ensures.1 c.in_err-step.ensures.read

pub returns-in_err-step-clause-syntax : goal.returns-in_err-step-clause-syntax
returns-in_err-step-clause-syntax c = exit_syntax c.args.line.now c.from_residual.result c.in_err-step.field-0.0 c.from_residual.ensures.1 c.in_err-step.ensures.read

pub returns-then-ne-clause-spelled : goal.returns-then-ne-clause-spelled
returns-then-ne-clause-spelled c = λ s is same.
    absurd (refused c.args.line.now c.in_ok-printed.printed.items c.as_slice.result.now c.in_ok-step.step c.ne.result c.in_ok-step.ensures.read c.in_ok-printed.ensures c.as_slice.ensures.value c.ne.ensures c.if-ne.true s is same)

pub returns-then-ne-clause-syntax : goal.returns-then-ne-clause-syntax
returns-then-ne-clause-syntax c = λ syntax s is same.
    refused c.args.line.now c.in_ok-printed.printed.items c.as_slice.result.now c.in_ok-step.step c.ne.result c.in_ok-step.ensures.read c.in_ok-printed.ensures c.as_slice.ensures.value c.ne.ensures c.if-ne.true s is same

pub returns-clause-spelled : goal.returns-clause-spelled
returns-clause-spelled c = λ s is same. inl (ap Ok (sym (read_is_only c.args.line.now c.in_ok-step.step c.in_ok-step.ensures.read s is same)))
