use Rattle.std.proofs.Common.{◌≡◌, length}
use Rattle.css_value.specs.StyleText as spec
use Rattle.css_value.proofs.style_text.trim_start.Given as goal

abbrev pub invariant-loop-rest : goal.invariant-loop-rest
invariant-loop-rest l = spec.trim_start l.rest ≡ spec.trim_start l.text

abbrev pub decreases-loop-rest : goal.decreases-loop-rest
decreases-loop-rest l = length l.rest
