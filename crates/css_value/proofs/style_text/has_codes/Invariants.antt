use Rattle.std.proofs.Common.{◌≡◌, drop, bytes_eq}
use Rattle.css_value.proofs.style_text.has_codes.Given as goal

abbrev pub invariant-loop-i : goal.invariant-loop-i
invariant-loop-i l = bytes_eq (drop l.i l.codes) (drop l.i l.text) ≡ bytes_eq l.codes l.text
