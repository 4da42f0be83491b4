use Rattle.std.proofs.Common.{false, drop}
use Rattle.step_text.specs.StepReading.{unescaped_gives, escapes, unescaped}
use Rattle.step_text.proofs.Loops.{Follows}
use Rattle.step_text.proofs.tag.unescape.Given as goal

abbrev pub invariant-loop-b : goal.invariant-loop-b
invariant-loop-b l = Follows unescaped_gives escapes l.bytes.items l.escaped (drop l.b-index l.text) (unescaped false l.text)
