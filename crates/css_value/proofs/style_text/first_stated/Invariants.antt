use Rattle.std.proofs.Common.{◌≡◌, ◌≤◌, length}
use Rattle.css_value.specs.StyleText as spec
use Rattle.css_value.proofs.style_text.first_stated.Given as goal

abbrev pub invariant-loop-rest : goal.invariant-loop-rest
invariant-loop-rest l = record {
  left : spec.stated l.rest ≡ spec.stated l.text;
  shorter : length l.rest ≤ length l.text;
}

abbrev pub decreases-loop-rest : goal.decreases-loop-rest
decreases-loop-rest l = length l.rest
