use Rattle.std.proofs.Common.{length}
use Rattle.step_text.specs.StepLine.{AreAttributes}
use Rattle.step_text.specs.StepReading.{attributes_of}
use Rattle.step_text.proofs.Loops.{Gathers}
use Rattle.step_text.proofs.tag.read_attributes.Given as goal

abbrev pub invariant-loop-head : goal.invariant-loop-head
invariant-loop-head l = record {
  read : Gathers l.attributes l.rest (attributes_of l.text);
  sound : AreAttributes l.attributes;
}

abbrev pub decreases-loop-head : goal.decreases-loop-head
decreases-loop-head l = length l.rest
