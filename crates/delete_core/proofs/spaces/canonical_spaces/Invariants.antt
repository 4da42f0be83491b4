use Rattle.std.proofs.Common.{◌≡◌, ◌++◌}
use Rattle.delete_core.specs.Spaces.{canonical_spaces}
use Rattle.delete_core.proofs.spaces.canonical_spaces.Given as goal

-- what is left comes after what is there
abbrev pub invariant-loop-left : goal.invariant-loop-left
invariant-loop-left l = l.spaces.items ++ canonical_spaces l.left l.start l.end ≡ canonical_spaces l.fn.count l.start l.end

abbrev pub decreases-loop-left : goal.decreases-loop-left
decreases-loop-left l = l.left
