use Rattle.std.proofs.Common.{◌≡◌, drop, bytes_eq}
use Rattle.css_value.specs.StyleText as spec
use Rattle.css_value.proofs.style_text.is_named.Given as goal

abbrev pub invariant-loop-i : goal.invariant-loop-i
invariant-loop-i l = bytes_eq (drop l.i l.name) (spec.lowered (drop l.i l.text)) ≡ bytes_eq l.name (spec.lowered l.text)
