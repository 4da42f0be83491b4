use Rattle.std.proofs.Common.{◌≡◌, ◌≤◌, drop, fold}
use Rattle.std.specs.List.{list_all}
use Rattle.std.specs.Char.{is_ascii_digit}
use Rattle.css_value.specs.Numbers.{with_digit, decimal}
use Rattle.css_value.proofs.sizes.number.Given as goal

abbrev pub invariant-loop-c : goal.invariant-loop-c
invariant-loop-c l = record {
  digits : list_all is_ascii_digit (drop l.c-index l.text) ≡ list_all is_ascii_digit l.text;
  value : fold with_digit l.value (drop l.c-index l.text) ≡ decimal l.text;
  small : l.value ≤ l.most;
}
