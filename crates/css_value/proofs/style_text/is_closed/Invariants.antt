use Rattle.std.proofs.Common.{◌≡◌, ◌≤◌, drop, fold}
use Rattle.css_value.specs.StyleText as spec
use Rattle.css_value.proofs.style_text.is_closed.Given as goal

abbrev pub invariant-loop-c : goal.invariant-loop-c
invariant-loop-c l = record {
  passed : fold spec.after l.nesting (drop l.c-index l.piece) ≡ fold spec.after spec.outside l.piece;
  depth : l.nesting.depth ≤ l.c-index;
}
