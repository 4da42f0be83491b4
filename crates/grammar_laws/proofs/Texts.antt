-- Texts of scalar values, cut, joined and lowered.
use Rattle.std.proofs.Common.{◌≡◌, ℕ, zero, suc, ◌+◌, ◌<◌, Bool, true, false, cond, nat_lt, List, [], ◌∷◌, ◌++◌, take, drop, Option, Some, None, IfSome, refl, arith}
use Rattle.std.specs.Prelude.{◌/◌, ◌%◌, decimal, ◌&&◌, ◌==◌, slice_index_or, slice_set, replicate, map, unwrap_or, filter}
use Rattle.std.specs.Char.{to_ascii_lowercase}
use Rattle.std.specs.List.{find, filter_map, cons_option, onto_first, slice_split, join_with_byte}
use Rattle.std.specs.Option.{option_map, option_and_then, option_or}
use Rattle.std.specs.Str.{all_scalars}
use Rattle.std.proofs.Math.Utf8.{scalar}
use Rattle.std.proofs.lemmas.Bool.{and_parts}
use Rattle.std.proofs.lemmas.Bool.Decides.{nat_tests}
use Rattle.std.specs.Fmt.{digit_glyph, digits_onto, digits}
use Rattle.edit_model.specs.Confined.{spliced}
use Rattle.inline_value.specs.ForestChanges.Named.{Each}
use Rattle.grammar_laws.specs.Proper.{IsText}

-- ---- lists

pub each_if : {A : Type 0} (P : A → Type 0) (b : Bool) (xs ys : List A) → Each P xs → Each P ys → Each P (cond b xs ys)
each_if P true xs ys h g = h
each_if P false xs ys h g = g

module _ {A : Type 0} (P : A → Type 0) where
  pub each_append : (xs ys : List A) → Each P xs → Each P ys → Each P (xs ++ ys)
  each_append [] ys h g = g
  each_append (x ∷ xs) ys h g = (h.0, each_append xs ys h.1 g)

  pub each_take : (n : ℕ) (xs : List A) → Each P xs → Each P (take n xs)
  each_take zero xs h = tt
  each_take (suc n) [] h = tt
  each_take (suc n) (x ∷ xs) h = (h.0, each_take n xs h.1)

  pub each_drop : (n : ℕ) (xs : List A) → Each P xs → Each P (drop n xs)
  each_drop zero xs h = h
  each_drop (suc n) [] h = tt
  each_drop (suc n) (x ∷ xs) h = each_drop n xs h.1

  pub each_replicate : (n : ℕ) (x : A) → P x → Each P (replicate n x)
  each_replicate zero x h = tt
  each_replicate (suc n) x h = (h, each_replicate n x h)

  pub each_set_at : (xs : List A) (n : ℕ) (x : A) → P x → Each P xs → Each P (slice_set xs n x)
  each_set_at [] n x own h = tt
  each_set_at (y ∷ xs) zero x own h = (own, h.1)
  each_set_at (y ∷ xs) (suc n) x own h = (h.0, each_set_at xs n x own h.1)

  pub each_index : (xs : List A) (n : ℕ) (x : A) → P x → Each P xs → P (slice_index_or xs n x)
  each_index [] n x own h = own
  each_index (y ∷ xs) zero x own h = h.0
  each_index (y ∷ xs) (suc n) x own h = each_index xs n x own h.1

  pub each_filter : (test : A → Bool) (xs : List A) → Each P xs → Each P (filter test xs)
  each_filter test [] h = tt
  each_filter test (x ∷ xs) h = each_if P (test x) (x ∷ filter test xs) (filter test xs) (h.0, each_filter test xs h.1) (each_filter test xs h.1)

  pub each_found : (test : A → Bool) (xs : List A) → Each P xs → IfSome (find test xs) P
  each_found test [] h = tt
  each_found test (x ∷ xs) h = by_test (test x) (each_found test xs h.1)
    where
      by_test : (b : Bool) → IfSome (find test xs) P → IfSome (cond b (Some x) (find test xs)) P
      by_test true more = h.0
      by_test false more = more

pub each_mapped : {A B : Type 0} (P : A → Type 0) (Q : B → Type 0) (f : A → B) → ((x : A) → P x → Q (f x)) → (xs : List A) → Each P xs → Each Q (map f xs)
each_mapped P Q f go [] h = tt
each_mapped P Q f go (x ∷ xs) h = (go x h.0, each_mapped P Q f go xs h.1)

pub each_chosen : {A B : Type 0} (P : A → Type 0) (Q : B → Type 0) (f : A → Option B) → ((x : A) → P x → IfSome (f x) Q) → (xs : List A) → Each P xs → Each Q (filter_map f xs)
each_chosen P Q f go [] h = tt
each_chosen {B = B} P Q f go (x ∷ xs) h = by_option (f x) (go x h.0) (filter_map f xs) (each_chosen P Q f go xs h.1)
  where
    by_option : (o : Option B) → IfSome o Q → (ys : List B) → Each Q ys → Each Q (cons_option o ys)
    by_option None own ys more = more
    by_option (Some y) own ys more = (own, more)

-- ---- what may be there

pub some_if : {A : Type 0} (P : A → Type 0) (b : Bool) (o p : Option A) → IfSome o P → IfSome p P → IfSome (cond b o p) P
some_if P true o p h g = h
some_if P false o p h g = g

pub some_or : {A : Type 0} (P : A → Type 0) (o p : Option A) → IfSome o P → IfSome p P → IfSome (option_or o p) P
some_or P None p h g = g
some_or P (Some x) p h g = h

pub some_then : {A B : Type 0} (P : A → Type 0) (Q : B → Type 0) (f : A → Option B) (o : Option A) → IfSome o P → ((x : A) → P x → IfSome (f x) Q) → IfSome (option_and_then f o) Q
some_then P Q f None h go = tt
some_then P Q f (Some x) h go = go x h

pub some_mapped : {A B : Type 0} (P : A → Type 0) (Q : B → Type 0) (f : A → B) (o : Option A) → IfSome o P → ((x : A) → P x → Q (f x)) → IfSome (option_map f o) Q
some_mapped P Q f None h go = tt
some_mapped P Q f (Some x) h go = go x h

pub some_or_else : {A : Type 0} (P : A → Type 0) (o : Option A) (x : A) → IfSome o P → P x → P (unwrap_or o x)
some_or_else P None x h g = g
some_or_else P (Some y) x h g = h

pub some_any : {A : Type 0} (o : Option A) → IfSome o (λ _. Unit {0})
some_any None = tt
some_any (Some x) = tt

-- ---- characters

abbrev pub IsLetter : ℕ → Type 0
IsLetter c = scalar c ≡ true

abbrev pub AreLetters : List ℕ → Type 0
AreLetters chars = Each IsLetter chars

pub letters : (chars : List ℕ) → IsText chars → AreLetters chars
letters [] h = tt
letters (c ∷ chars) h = (let parts = and_parts (scalar c) (all_scalars chars) h in (parts.0, letters chars parts.1))

pub text : (chars : List ℕ) → AreLetters chars → IsText chars
text [] h = refl
text (c ∷ chars) h = joined (scalar c) (all_scalars chars) h.0 (text chars h.1)
  where
    joined : (a b : Bool) → a ≡ true → b ≡ true → (a && b) ≡ true
    joined true b h g = g
    joined false b h g = h

pub low_letter : (c : ℕ) → c < 256 → IsLetter c
low_letter c low = grind (arith, nat_tests)

pub lower_letter : (c : ℕ) → IsLetter c → IsLetter (to_ascii_lowercase c)
lower_letter c h = by_low (nat_lt c 65) (nat_lt c 91) refl
  where
    by_low : (a b : Bool) → nat_lt c 91 ≡ b → IsLetter (cond a c (cond b (c + 32) c))
    by_low true b e = h
    by_low false false e = h
    by_low false true e = low_letter (c + 32) (let low : c < 91 = grind (arith, nat_tests, e) in omega (arith, low))

pub text_append : (xs ys : List ℕ) → IsText xs → IsText ys → IsText (xs ++ ys)
text_append xs ys h g = text (xs ++ ys) (each_append IsLetter xs ys (letters xs h) (letters ys g))

pub text_drop : (n : ℕ) (xs : List ℕ) → IsText xs → IsText (drop n xs)
text_drop n xs h = text (drop n xs) (each_drop IsLetter n xs (letters xs h))

pub text_spliced : (xs : List ℕ) (at count : ℕ) (put : List ℕ) → IsText xs → IsText put → IsText (spliced xs at count put)
text_spliced xs at count put h g =
    text_append (take at xs) (put ++ drop (at + count) xs) (text (take at xs) (each_take IsLetter at xs (letters xs h)))
    (text_append put (drop (at + count) xs) g (text_drop (at + count) xs h))

-- ---- words

pub each_onto_first : (P : ℕ → Type 0) (c : ℕ) (parts : List (List ℕ)) → P c → Each (Each P) parts → Each (Each P) (onto_first c parts)
each_onto_first P c [] own h = ((own, tt), tt)
each_onto_first P c (part ∷ parts) own h = ((own, h.0), h.1)

pub each_split : (P : ℕ → Type 0) (test : ℕ → Bool) (chars : List ℕ) → Each P chars → Each (Each P) (slice_split test chars)
each_split P test [] h = (tt, tt)
each_split P test (c ∷ chars) h =
    let more = each_split P test chars h.1 in
    each_if (Each P) (test c) ([] ∷ slice_split test chars) (onto_first c (slice_split test chars)) (tt, more) (each_onto_first P c (slice_split test chars) h.0 more)

pub each_joined : (P : ℕ → Type 0) (b : ℕ) (parts : List (List ℕ)) → P b → Each (Each P) parts → Each P (join_with_byte b parts)
each_joined P b [] own h = tt
each_joined P b (x ∷ []) own h = h.0
each_joined P b (x ∷ y ∷ parts) own h = each_append P x (b ∷ join_with_byte b (y ∷ parts)) h.0 (own, each_joined P b (y ∷ parts) own h.1)

-- ---- numbers

glyph_letter : (d : ℕ) → d < 10 → IsLetter (digit_glyph false d)
glyph_letter d low = (let t : nat_lt d 10 ≡ true = grind (arith, nat_tests, low) in rw t (low_letter (48 + d) (omega (arith, low))))

digits_letters : (k n : ℕ) (acc : List ℕ) → AreLetters acc → AreLetters (digits_onto k 10 false n acc)
digits_letters zero n acc h = h
digits_letters (suc k) n acc h =
    let own : IsLetter (digit_glyph false (n % 10)) = glyph_letter (n % 10) (omega arith) in
    each_if IsLetter (n / 10 == 0) (digit_glyph false (n % 10) ∷ acc) (digits_onto k 10 false (n / 10) (digit_glyph false (n % 10) ∷ acc)) (own, h) (digits_letters k (n / 10) (digit_glyph false (n % 10) ∷ acc) (own, h))

pub text_decimal : (n : ℕ) → IsText (decimal n)
unfolding digits
text_decimal n = text (decimal n) (digits_letters 64 n [] tt)
