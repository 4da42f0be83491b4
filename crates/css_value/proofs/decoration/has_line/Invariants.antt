use Rattle.std.proofs.Common.{◌≡◌, length}
use Rattle.css_value.specs.TextDecoration.{has_line}
use Rattle.css_value.proofs.decoration.has_line.Given as goal

abbrev pub invariant-loop-word : goal.invariant-loop-word
invariant-loop-word l = has_line l.rest l.line ≡ has_line l.text l.line

abbrev pub decreases-loop-word : goal.decreases-loop-word
decreases-loop-word l = length l.rest
