use Rattle.std.proofs.Common.{◌≡◌, ◌++◌, drop, take}
use Rattle.css_value.specs.TextDecoration.{before_space, from_space}
use Rattle.css_value.proofs.decoration.split_word.Given as goal

abbrev pub invariant-loop-i : goal.invariant-loop-i
invariant-loop-i l = record {
  word : take l.i l.text ++ before_space (drop l.i l.text) ≡ before_space l.text;
  rest : from_space (drop l.i l.text) ≡ from_space l.text;
}
