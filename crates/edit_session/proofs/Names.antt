-- Names of commands in acts are text.
use Rattle.std.proofs.Common.{◌≡◌, ℕ, ◌<◌, Bool, true, false, ◌&&◌, List, [], ◌∷◌, length, refl, arith}
use Rattle.std.specs.Prelude.{nat_lt, nat_le}
use Rattle.std.specs.List.{list_all, All}
use Rattle.std.specs.Str.{IsUtf8}
use Rattle.std.proofs.lemmas.Bool.Decides.{nat_tests}
use Rattle.std.proofs.lemmas.Str.{IsUtf8-from_ascii}
use Rattle.std.proofs.lemmas.Str.Ascii.{IsAscii-from_all}
use Rattle.std.proofs.lemmas.List.Elements.{All-cons}
use Rattle.script_read.specs.Acts.{is_name, is_name_byte}

byte_low : (b : ℕ) → is_name_byte b ≡ true → b < 128
byte_low b h = grind (arith, nat_tests)

last_of_three : (a b c : Bool) → (a && (b && c)) ≡ true → c ≡ true
last_of_three true true c h = h
last_of_three true false c h = absurd (let h' = h in cc)
last_of_three false b c h = absurd (let h' = h in cc)

first_of : (a b : Bool) → (a && b) ≡ true → (a ≡ true) × (b ≡ true)
first_of true b h = (refl, h)
first_of false b h = absurd (let h' = h in cc)

bytes_low : (xs : List ℕ) → list_all is_name_byte xs ≡ true → All (λ b. b < 128) xs
bytes_low [] h = λ k d low. absurd (omega (arith, low))
bytes_low (x ∷ xs) h = let p = first_of (is_name_byte x) (list_all is_name_byte xs) h in All-cons (λ b. b < 128) x xs (byte_low x p.0) (bytes_low xs p.1)

pub name_is_text : (name : List ℕ) → is_name name ≡ true → IsUtf8 name
name_is_text name h =
    IsUtf8-from_ascii name (IsAscii-from_all name (bytes_low name (last_of_three (nat_lt 0 (length name)) (nat_le (length name) 64) (list_all is_name_byte name) h)))
