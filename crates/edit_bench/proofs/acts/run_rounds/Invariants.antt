use Rattle.inline_value.specs.EditDoc.Whole.{IsClosed}
use Rattle.edit_bench.proofs.acts.run_rounds.Given as goal

-- no command is running
abbrev pub invariant-loop-left : goal.invariant-loop-left
invariant-loop-left l = IsClosed l.doc

abbrev pub decreases-loop-left : goal.decreases-loop-left
decreases-loop-left l = l.left
