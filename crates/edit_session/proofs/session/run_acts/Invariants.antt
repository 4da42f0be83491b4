use Rattle.std.proofs.Common.{◌≤◌, length}
use Rattle.edit_session.specs.Block.{lines_of}
use Rattle.edit_session.specs.Replies.{replies_to}
use Rattle.edit_session.proofs.Runs.{SoFar}
use Rattle.edit_session.proofs.session.run_acts.Given as goal

-- the replies so far are written, and those to the rest are still to be written
abbrev pub invariant-loop-rest : goal.invariant-loop-rest
invariant-loop-rest g l = record {
  written : SoFar (g.O.Sink.taken l.initial.output) (g.O.Sink.taken l.output) (replies_to l.gate l.editor.editing (lines_of l.rest)) (replies_to l.gate l.initial.editor.editing (lines_of l.acts));
  counted : g.O.Sink.faults l.initial.output ≤ g.O.Sink.faults l.output;
}

abbrev pub decreases-loop-rest : goal.decreases-loop-rest
decreases-loop-rest g l = length l.rest
