use Rattle.std.proofs.Common.{◌≡◌, ◌++◌, drop, take}
use Rattle.css_value.specs.StyleText as spec
use Rattle.css_value.proofs.style_text.around_colon.Given as goal

abbrev pub invariant-loop-i : goal.invariant-loop-i
invariant-loop-i l = record {
  before : take l.i l.piece ++ spec.before_colon (drop l.i l.piece) ≡ spec.before_colon l.piece;
  after : spec.after_colon (drop l.i l.piece) ≡ spec.after_colon l.piece;
}
