use Rattle.std.proofs.Common.{drop}
use Rattle.step_text.specs.StepReading.{referenced_gives, after, unreferenced}
use Rattle.step_text.proofs.Loops.{Follows}
use Rattle.step_text.proofs.tag.dereference.Given as goal

abbrev pub invariant-loop-b : goal.invariant-loop-b
invariant-loop-b l = Follows referenced_gives after l.bytes.items l.state (drop l.b-index l.text) (unreferenced l.text)
