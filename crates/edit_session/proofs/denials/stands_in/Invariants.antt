use Rattle.std.proofs.Common.{◌≡◌, length}
use Rattle.edit_session.proofs.DeniedNames.{stands}
use Rattle.edit_session.proofs.denials.stands_in.Given as goal

-- what is left of the list decides
abbrev pub invariant-loop-first : goal.invariant-loop-first
invariant-loop-first l = stands l.name l.rest ≡ stands l.name l.list

abbrev pub decreases-loop-first : goal.decreases-loop-first
decreases-loop-first l = length l.rest
