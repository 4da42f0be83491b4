use Rattle.edit_doc.specs.GivingUp.{GivesUp, is_unnamed}
use Rattle.edit_doc.proofs.GivingUp.{up_to}
use Rattle.edit_doc.proofs.giving_up.give_up_unnamed.Given as goal

abbrev pub invariant-loop-label : goal.invariant-loop-label
invariant-loop-label l = GivesUp (up_to (is_unnamed l.low l.command) l.label) l.initial.arena l.arena
