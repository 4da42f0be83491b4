-- Names of elements and attributes in the code and in the grammar.
use Rattle.std.proofs.Common.{◌≡◌, ℕ, ◌<◌, true, nat_le, arith}
use Rattle.std.proofs.lemmas.Bool.Decides.{nat_tests}
use Rattle.page_grammar.specs.Chars.{is_letter, is_name_char, is_digit, lower}
use Rattle.page_grammar.proofs.Facts.{and_parts, test_le}

-- names are ASCII
pub letter_small : (b : ℕ) → is_letter b ≡ true → lower b < 256
unfolding is_letter
letter_small b h = omega (arith, test_le (lower b) 122 (and_parts (nat_le 97 (lower b)) (nat_le (lower b) 122) h).1)

pub name_small : (b : ℕ) → is_name_char b ≡ true → lower b < 256
unfolding is_letter is_name_char is_digit lower
name_small b h = grind (arith, nat_tests)
