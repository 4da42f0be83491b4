use Rattle.std.proofs.Common.{◌≡◌, true, take, min}
use Rattle.std.specs.Char.{is_ascii_digit}
use Rattle.std.specs.List.{list_all}
use Rattle.css_value.specs.Numbers.{decimal}
use Rattle.node_styles.proofs.hints.number.Given as goal

-- the characters so far are digits, and at most 100 of their number is told
abbrev pub invariant-loop-digit : goal.invariant-loop-digit
invariant-loop-digit l = record {
  digits : list_all is_ascii_digit (take l.digit-index l.digits) ≡ true;
  number : l.number ≡ min 100 (decimal (take l.digit-index l.digits));
}
