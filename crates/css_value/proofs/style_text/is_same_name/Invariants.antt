use Rattle.std.proofs.Common.{◌≡◌, drop, bytes_eq}
use Rattle.css_value.specs.StyleText as spec
use Rattle.css_value.proofs.style_text.is_same_name.Given as goal

abbrev pub invariant-loop-i : goal.invariant-loop-i
invariant-loop-i l = bytes_eq (spec.lowered (drop l.i l.right)) (spec.lowered (drop l.i l.left)) ≡ bytes_eq (spec.lowered l.right) (spec.lowered l.left)
