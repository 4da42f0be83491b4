use Rattle.std.proofs.Common.{◌≡◌, ℕ, ◌<◌, false, IfSome, slice_get}
use Rattle.edit_parts.specs.Following.{is_pair_touched}
use Rattle.edit_parts.proofs.following.touches_marks.Given as goal

abbrev pub invariant-loop-mark : goal.invariant-loop-mark
invariant-loop-mark l = (k : ℕ) → k < l.mark → IfSome (slice_get l.points.marks k) (λ m. is_pair_touched l.child l.to m.1 ≡ false)
