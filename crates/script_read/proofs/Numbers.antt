-- Numbers, names and the digits of an escape.
use Rattle.std.proofs.Common.{◌≡◌, ℕ, zero, suc, ◌+◌, ◌*◌, ◌^◌, ◌<◌, ◌≤◌, true, false, List, [], ◌∷◌, length, Some, Result, refl, sym, ap, arith, rules, IsUtf8}
use Rattle.std.specs.Char.{is_ascii_digit}
use Rattle.std.specs.List.{list_all}
use Rattle.std.specs.Result.{result_ok}
use Rattle.std.specs.Str.Parse.{ParsesUnsigned, digits_value}
use Rattle.std.proofs.Math.Utf8.{scalars, encodes, low_scalar}
use Rattle.std.proofs.lemmas.Bool.Decides.{nat_tests}
use Rattle.std.proofs.lemmas.Option.{cond_some}
use Rattle.std.proofs.lemmas.Str.{encode_ascii}
use Rattle.std.proofs.lemmas.Str.Parse.{IsNumeralModel, numerals_by_value, parse_gives, digits_value_short}
use Rattle.script_read.specs.Acts.{is_number, is_name, is_name_byte, IsName, IsNumber}
use Rattle.script_read.specs.Reading.{name_of, number_of}
use Rattle.script_read.proofs.Tests.{and-true}
use Rattle.script_read.proofs.Cutting.{Avoids, passing_avoids}

digits : IsNumeralModel (λ ds. list_all is_ascii_digit ds ≡ true) (digits_value 10)
digits = numerals_by_value _ (search rules)

pub record IsDigits (text : List ℕ) : Type 0 where
  pub some : 0 < length text
  pub few : length text ≤ 9
  pub all : list_all is_ascii_digit text ≡ true

pub is_digits : (text : List ℕ) → is_number text ≡ true → IsDigits text
is_digits text is = record {
  some = grind (arith, nat_tests, is);
  few = grind (arith, nat_tests, is);
  all = grind (arith, nat_tests, is);
}

pub parse_number : {E : Type 0} (text : List ℕ) (r : Result ℕ E) → ParsesUnsigned 32 10 text r → is_number text ≡ true → result_ok r ≡ number_of text
parse_number text r parsed is =
    let d = is_digits text is in
    let below : digits_value 10 text < 10 ^ 9 = digits_value_short digits text 9 d.all d.few in
    let e = parse_gives digits 32 text r parsed d.all d.some (omega (arith, below)) in
    rw (e, is) refl

digit_is_ascii : (b : ℕ) → is_ascii_digit b ≡ true → b < 128
digit_is_ascii b is = grind (arith, nat_tests, is)

digit_characters : (text : List ℕ) → list_all is_ascii_digit text ≡ true → (scalars text ≡ true) × (encodes text ≡ text)
digit_characters [] all = (refl, refl)
digit_characters (b ∷ bs) all =
    let h = and-true (is_ascii_digit b) (list_all is_ascii_digit bs) all in
    let low = digit_is_ascii b h.0 in
    let tail = digit_characters bs h.1 in
    (rw (low_scalar b (omega (arith, low)), tail.0) refl, rw (encode_ascii b low, tail.1) refl)

pub number_is_utf8 : (text : List ℕ) → is_number text ≡ true → IsUtf8 text
number_is_utf8 text is = (text, digit_characters text (is_digits text is).all)

-- ---- the grammar

pub number_back : (text : List ℕ) (n : ℕ) → IsNumber text n → number_of text ≡ Some n
number_back text n is = rw is.0 (ap Some (sym is.1))

pub number_sound : (text : List ℕ) (n : ℕ) → number_of text ≡ Some n → IsNumber text n
number_sound text n e = let h = cond_some (is_number text) (digits_value 10 text) n e in (h.0, sym h.1)

pub number_avoids : (c : ℕ) → is_ascii_digit c ≡ false → (text : List ℕ) (n : ℕ) → IsNumber text n → Avoids c text
number_avoids c lacks text n is = passing_avoids is_ascii_digit c lacks text (is_digits text is.0).all

pub name_back : (text : List ℕ) → IsName text → name_of text ≡ Some text
name_back text is = rw is refl

-- a name that is read is the text
pub name_sound : (text name : List ℕ) → name_of text ≡ Some name → IsName text × (text ≡ name)
name_sound text name e = cond_some (is_name text) text name e

pub name_avoids_space : (text : List ℕ) → IsName text → Avoids 32 text
name_avoids_space text is =
    let all : list_all is_name_byte text ≡ true = grind (arith, nat_tests, is) in
    passing_avoids is_name_byte 32 refl text all

-- ---- one hexadecimal digit more

pub few_digits : (count number : ℕ) → count < 6 → number < 16 ^ count → number < 16 ^ 5
few_digits zero n lt h = omega arith
few_digits (suc zero) n lt h = omega arith
few_digits (suc (suc zero)) n lt h = omega arith
few_digits (suc (suc (suc zero))) n lt h = omega arith
few_digits (suc (suc (suc (suc zero)))) n lt h = omega arith
few_digits (suc (suc (suc (suc (suc zero))))) n lt h = omega arith
few_digits (suc (suc (suc (suc (suc (suc k)))))) n lt h = absurd (omega arith)

pub digit_more : (count number digit : ℕ) → count < 6 → number < 16 ^ count → digit < 16 → number * 16 + digit < 16 ^ (count + 1)
digit_more zero n d lt h l = omega arith
digit_more (suc zero) n d lt h l = omega arith
digit_more (suc (suc zero)) n d lt h l = omega arith
digit_more (suc (suc (suc zero))) n d lt h l = omega arith
digit_more (suc (suc (suc (suc zero)))) n d lt h l = omega arith
digit_more (suc (suc (suc (suc (suc zero))))) n d lt h l = omega arith
digit_more (suc (suc (suc (suc (suc (suc k)))))) n d lt h l = absurd (omega arith)
