use Rattle.std.proofs.Common.{◌≡◌, ◌++◌, length}
use Rattle.edit_session.specs.Denials.{names_in}
use Rattle.edit_session.proofs.denials.read_names.Given as goal

-- the names so far are in the list
abbrev pub invariant-loop-name : goal.invariant-loop-name
invariant-loop-name l = l.list ++ names_in l.rest ≡ names_in l.text

abbrev pub decreases-loop-name : goal.decreases-loop-name
decreases-loop-name l = length l.rest
