use Rattle.std.proofs.Common.{◌≡◌, ◌++◌, drop, take}
use Rattle.std.specs.Option.{option_map}
use Rattle.css_value.specs.Colours as spec
use Rattle.css_value.proofs.colours.split_first.Given as goal

abbrev pub invariant-loop-i : goal.invariant-loop-i
invariant-loop-i l = option_map (λ p. (take l.i l.text ++ p.0, p.1)) (spec.split_first l.stop (drop l.i l.text)) ≡ spec.split_first l.stop l.text
