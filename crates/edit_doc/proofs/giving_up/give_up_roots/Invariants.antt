use Rattle.std.proofs.Common.{take}
use Rattle.edit_model.specs.LiveRange.PointsEdit.{has_label}
use Rattle.edit_model.specs.Gives.{labels_of}
use Rattle.edit_doc.specs.GivingUp.{GivesUp}
use Rattle.edit_doc.proofs.giving_up.give_up_roots.Given as goal

abbrev pub invariant-loop-i : goal.invariant-loop-i
invariant-loop-i l = GivesUp (has_label (labels_of (take l.i l.roots))) l.initial.arena l.arena
