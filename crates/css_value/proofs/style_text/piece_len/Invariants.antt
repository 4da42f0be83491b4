use Rattle.std.proofs.Common.{◌≡◌, ◌+◌, ◌≤◌, drop}
use Rattle.css_value.specs.StyleText as spec
use Rattle.css_value.proofs.PieceLengths.{first_len}
use Rattle.css_value.proofs.style_text.piece_len.Given as goal

abbrev pub invariant-loop-i : goal.invariant-loop-i
invariant-loop-i l = record {
  left : l.i + first_len l.nesting (drop l.i l.text) ≡ first_len spec.outside l.text;
  depth : l.nesting.depth ≤ l.i;
}
