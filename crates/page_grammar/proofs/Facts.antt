-- Facts on characters, and small tools.
use Rattle.std.proofs.Common.{◌≡◌, ℕ, zero, suc, pred, ◌+◌, ◌*◌, ◌<◌, ◌≤◌, Bool, true, false, ◌&&◌, ◌||◌, ◌⊎◌, inl, inr, List, [], ◌∷◌, ◌++◌, Option, Some, None, refl, ap, ◌∙◌, subst, arith}
use Rattle.std.specs.Prelude.{replicate, nat_lt, nat_le, ◌==◌, if◌then◌else◌}
use Rattle.std.proofs.lemmas.Bool.{cases_Bool, eqb-false}
use Rattle.std.proofs.lemmas.Slice.Eq.{bytes_eq-Decides}
use Rattle.std.specs.Str.{bytes_eq}
use Rattle.std.proofs.Math.Utf8.{scalar, scalars}
use Rattle.std.proofs.lemmas.Bool.Decides.{nat_tests}
use Rattle.page_grammar.specs.Chars.{is_space, lower, is_letter, is_digit, is_name_char, is_control, is_attribute_name_char, is_quote, is_hex, is_referable, digit_of}
use Rattle.page_grammar.specs.Names.{is_one_of, refused_names, void_names, is_void, is_refused}
use Rattle.page_grammar.specs.Machine.{Machine, then_run}

pub app_nil : {A : Type 0} (xs : List A) → xs ++ [] ≡ xs
app_nil [] = refl
app_nil (x ∷ xs) = ap (λ l. x ∷ l) (app_nil xs)

pub same_char : (b k : ℕ) → (b == k) ≡ true → b ≡ k
same_char b k h = grind (arith, nat_tests)

pub and_parts : (a b : Bool) → (a && b) ≡ true → (a ≡ true) × (b ≡ true)
and_parts true b h = (refl, h)
and_parts false b h = cc

-- P holds of what comes, if something comes
abbrev pub On : (Machine → Type 0) → Option Machine → Type 0
On P None = Unit {0}
On P (Some m) = P m

pub on_if : (P : Machine → Type 0) (t : Bool) (x y : Option Machine) → (t ≡ true → On P x) → (t ≡ false → On P y) → On P (if t then x else y)
on_if P true x y f g = f refl
on_if P false x y f g = g refl

-- the same of one machine
pub if_both : (P : Machine → Type 0) (t : Bool) (x y : Machine) → (t ≡ true → P x) → (t ≡ false → P y) → P (if t then x else y)
if_both P true x y f g = f refl
if_both P false x y f g = g refl

pub on_get : (P : Machine → Type 0) (o : Option Machine) (m : Machine) → On P o → o ≡ Some m → P m
on_get P None m h e = cc
on_get P (Some x) m h e = let k : x ≡ m = cc in subst P k h

pub then_some : (o : Option Machine) (k : Machine → Option Machine) (m2 : Machine) → then_run o k ≡ Some m2 → (m1 : Machine) × (o ≡ Some m1) × (k m1 ≡ Some m2)
then_some None k m2 h = cc
then_some (Some m1) k m2 h = (m1, refl, h)

pub suc_pred : (d : ℕ) → 0 < d → suc (pred d) ≡ d
suc_pred zero h = absurd (omega arith)
suc_pred (suc d) h = refl

pub letter_not_slash : (b : ℕ) → is_letter b ≡ true → (b == 47) ≡ false
unfolding is_letter lower
letter_not_slash b h = grind (arith, nat_tests)

pub letter_not_bang : (b : ℕ) → is_letter b ≡ true → (b == 33) ≡ false
unfolding is_letter lower
letter_not_bang b h = grind (arith, nat_tests)

pub space_not_key : (b : ℕ) → is_space b ≡ true → is_attribute_name_char b ≡ false
unfolding is_attribute_name_char
space_not_key b h = rw h refl

pub key_61 : is_attribute_name_char 61 ≡ false
unfolding is_attribute_name_char is_space is_control
key_61 = refl

pub key_not_space : (b : ℕ) → is_attribute_name_char b ≡ true → is_space b ≡ false
key_not_space b h = elim (cases_Bool (is_space b)) [ inl t ↦ let e = space_not_key b t in cc | inr f ↦ f ]

pub key_not_equals : (b : ℕ) → is_attribute_name_char b ≡ true → (b == 61) ≡ false
key_not_equals b h = elim (cases_Bool (b == 61)) [ inl t ↦ let e : is_attribute_name_char b ≡ false = rw (same_char b 61 t) key_61 in cc | inr f ↦ f ]

pub space_not_name : (b : ℕ) → is_space b ≡ true → is_name_char b ≡ false
unfolding is_space is_name_char is_letter is_digit lower
space_not_name b h = grind (arith, nat_tests)

pub space_32 : is_space 32 ≡ true
unfolding is_space
space_32 = refl

pub quote_not_space : (b : ℕ) → is_quote b ≡ true → is_space b ≡ false
unfolding is_space is_quote
quote_not_space b h = grind (arith, nat_tests)

pub head_eq : (x y : ℕ) (s r : List ℕ) → x ∷ s ≡ y ∷ r → x ≡ y
head_eq x y s r e = cc

pub tail_eq : (x y : ℕ) (s r : List ℕ) → x ∷ s ≡ y ∷ r → s ≡ r
tail_eq x y s r e = cc

pub not_same : {A : Type 0} (x y : ℕ) (s r : List ℕ) → x ∷ s ≡ y ∷ r → (x == y) ≡ false → A
not_same x y s r e h = let k = head_eq x y s r e in absurd (eqb-false x y h k)

pub digit_59 : is_digit 59 ≡ false
unfolding is_digit
digit_59 = refl

pub hex_59 : is_hex 59 ≡ false
unfolding is_hex is_digit lower
hex_59 = refl

pub digit_120 : (h : ℕ) → lower h ≡ 120 → is_digit h ≡ false
unfolding is_digit lower
digit_120 h e = grind (arith, nat_tests)

pub name_62 : is_name_char 62 ≡ false
unfolding is_name_char is_letter is_digit lower
name_62 = refl

pub name_47 : is_name_char 47 ≡ false
unfolding is_name_char is_letter is_digit lower
name_47 = refl

pub space_62 : is_space 62 ≡ false
unfolding is_space
space_62 = refl

pub space_47 : is_space 47 ≡ false
unfolding is_space
space_47 = refl

pub space_61 : is_space 61 ≡ false
unfolding is_space
space_61 = refl

pub key_62 : is_attribute_name_char 62 ≡ false
unfolding is_attribute_name_char is_space is_control
key_62 = refl

pub key_47 : is_attribute_name_char 47 ≡ false
unfolding is_attribute_name_char is_space is_control
key_47 = refl

pub quote_not_amp : (q : ℕ) → is_quote q ≡ true → (38 == q) ≡ false
unfolding is_quote
quote_not_amp q h = grind (arith, nat_tests)

pub referable_bound : (x : ℕ) → is_referable x ≡ true → x ≤ 1114111
unfolding is_referable
referable_bound x h = grind (arith, nat_tests)

pub le_test : (a b : ℕ) → a ≤ b → nat_le a b ≡ true
le_test a b h = grind (arith, nat_tests)

lower_if : (t : Bool) (b : ℕ) → (nat_le 65 b && nat_le b 90) ≡ t → lower (if t then b + 32 else b) ≡ (if t then b + 32 else b)
unfolding lower
lower_if true b h = let k : (nat_le 65 (b + 32) && nat_le (b + 32) 90) ≡ false = grind (arith, nat_tests) in rw k refl
lower_if false b h = rw h refl

pub lower_lower : (b : ℕ) → lower (lower b) ≡ lower b
unfolding lower
lower_lower b = lower_if (nat_le 65 b && nat_le b 90) b refl

pub lower_97 : lower 97 ≡ 97
unfolding lower
lower_97 = refl

pub key_97 : is_attribute_name_char 97 ≡ true
unfolding is_attribute_name_char is_space is_control
key_97 = refl

pub letter_97 : is_letter 97 ≡ true
unfolding is_letter lower
letter_97 = refl

pub name_45 : is_name_char 45 ≡ true
unfolding is_name_char is_letter is_digit lower
name_45 = refl

pub lower_45 : lower 45 ≡ 45
unfolding lower
lower_45 = refl

pub quote_34 : is_quote 34 ≡ true
unfolding is_quote
quote_34 = refl

pub space_34 : is_space 34 ≡ false
unfolding is_space
space_34 = refl

last_of : List ℕ → ℕ
last_of [] = 0
last_of (x ∷ []) = x
last_of (x ∷ y ∷ ys) = last_of (y ∷ ys)

last_app : (w : List ℕ) (x : ℕ) → last_of (w ++ x ∷ []) ≡ x
unfolding last_of
last_app [] x = refl
last_app (y ∷ []) x = refl
last_app (y ∷ z ∷ zs) x = last_app (z ∷ zs) x

or_parts : (a b : Bool) → (a || b) ≡ true → (a ≡ true) ⊎ (b ≡ true)
or_parts true b h = inl refl
or_parts false b h = inr h

-- no name of the list ends so
NoneEnds : ℕ → List (List ℕ) → Type 0
NoneEnds x [] = Unit {0}
NoneEnds x (n ∷ ns) = ((last_of n == x) ≡ false) × NoneEnds x ns

none_ends : (x : ℕ) (ns : List (List ℕ)) (w : List ℕ) → NoneEnds x ns → is_one_of ns (w ++ x ∷ []) ≡ false
unfolding NoneEnds
none_ends x [] w h = refl
none_ends x (n ∷ ns) w h =
    let ih = none_ends x ns w h.1 in
    elim (cases_Bool (bytes_eq n (w ++ x ∷ []))) [
      | inl t ↦ let e = (bytes_eq-Decides n (w ++ x ∷ [])).0 t in
          let k : last_of n ≡ x = ap last_of e ∙ last_app w x in
          absurd (eqb-false (last_of n) x h.0 k)
      | inr f ↦ rw f ih
    ]

pub refused_dash : (w : List ℕ) → is_refused (w ++ 45 ∷ []) ≡ false
unfolding is_refused refused_names NoneEnds last_of
refused_dash w = (none_ends 45 refused_names w (refl, (refl, (refl, (refl, (refl, (refl, (refl, (refl, (refl, (refl, (refl, tt))))))))))))

pub void_a : is_void (97 ∷ []) ≡ false
unfolding is_void void_names
void_a = refl

pub refused_a : is_refused (97 ∷ []) ≡ false
unfolding is_refused refused_names
refused_a = refl

pub digit_49 : is_digit 49 ≡ true
unfolding is_digit
digit_49 = refl

pub digit_48 : is_digit 48 ≡ true
unfolding is_digit
digit_48 = refl

pub hex_49 : is_hex 49 ≡ true
unfolding is_hex is_digit
hex_49 = refl

pub hex_48 : is_hex 48 ≡ true
unfolding is_hex is_digit
hex_48 = refl

pub digit_of_49 : digit_of 49 ≡ 1
unfolding digit_of is_digit
digit_of_49 = refl

pub digit_of_48 : digit_of 48 ≡ 0
unfolding digit_of is_digit
digit_of_48 = refl

pub referable_1 : is_referable 1 ≡ true
unfolding is_referable
referable_1 = refl

-- ten times or sixteen times a number that can't be referred to, but isn't too large
pub referable_10 : (v : ℕ) → v ≤ 1114111 → 0 < v → is_referable v ≡ false → is_referable (v * 10 + 0) ≡ true
unfolding is_referable
referable_10 v h p n = grind (arith, nat_tests)

pub referable_16 : (v : ℕ) → v ≤ 1114111 → 0 < v → is_referable v ≡ false → is_referable (v * 16 + 0) ≡ true
unfolding is_referable
referable_16 v h p n = grind (arith, nat_tests)

pub test_le : (a b : ℕ) → nat_le a b ≡ true → a ≤ b
test_le a b h = grind (arith, nat_tests)

pub name_ascii : (b : ℕ) → is_name_char b ≡ true → nat_lt (lower b) 128 ≡ true
unfolding is_name_char is_letter is_digit lower
name_ascii b h = grind (arith, nat_tests)

pub letter_ascii : (b : ℕ) → is_letter b ≡ true → nat_lt (lower b) 128 ≡ true
unfolding is_letter lower
letter_ascii b h = grind (arith, nat_tests)

pub ascii_scalar : (b : ℕ) → nat_lt b 128 ≡ true → scalar b ≡ true
ascii_scalar b h = grind (arith, nat_tests)

pub both_true : (a b : Bool) → a ≡ true → b ≡ true → (a && b) ≡ true
both_true true b e h = h
both_true false b e h = cc

pub scalars_app : (a b : List ℕ) → scalars a ≡ true → scalars b ≡ true → scalars (a ++ b) ≡ true
scalars_app [] b h k = k
scalars_app (x ∷ xs) b h k =
    let p = and_parts (scalar x) (scalars xs) h in
    both_true (scalar x) (scalars (xs ++ b)) p.0 (scalars_app xs b p.1 k)

pub scalars_split : (a b : List ℕ) → scalars (a ++ b) ≡ true → (scalars a ≡ true) × (scalars b ≡ true)
scalars_split [] b h = (refl, h)
scalars_split (x ∷ xs) b h =
    let p = and_parts (scalar x) (scalars (xs ++ b)) h in
    let q = scalars_split xs b p.1 in
    (both_true (scalar x) (scalars xs) p.0 q.0, q.1)

pub quote_scalar : (b : ℕ) → is_quote b ≡ true → scalar b ≡ true
unfolding is_quote
quote_scalar b h = grind (arith, nat_tests)

pub scalars_as : (n : ℕ) → scalars (replicate n 97) ≡ true
scalars_as zero = refl
scalars_as (suc n) = scalars_as n
