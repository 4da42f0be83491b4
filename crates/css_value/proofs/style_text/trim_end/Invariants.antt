use Rattle.std.proofs.Common.{◌≡◌, ◌≤◌, length, take}
use Rattle.css_value.specs.StyleText as spec
use Rattle.css_value.proofs.style_text.trim_end.Given as goal

abbrev pub invariant-loop-end : goal.invariant-loop-end
invariant-loop-end l = record {
  same : spec.trim_end (take l.end l.text) ≡ spec.trim_end l.text;
  within : l.end ≤ length l.text;
}

abbrev pub decreases-loop-end : goal.decreases-loop-end
decreases-loop-end l = l.end
