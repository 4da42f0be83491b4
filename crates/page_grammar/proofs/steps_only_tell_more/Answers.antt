use Rattle.page_grammar.proofs.Outputs.{step_tells, told_tells}
use Rattle.page_grammar.proofs.steps_only_tell_more.Goals as goal

pub returns : goal.returns
returns _ = record { step = step_tells; emitted = told_tells }
