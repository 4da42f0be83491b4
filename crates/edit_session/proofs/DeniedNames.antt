-- The names of a list, one after another.
use Rattle.std.proofs.Common.{◌≡◌, ℕ, suc, ◌+◌, ◌≤◌, ◌<◌, Bool, true, false, ◌&&◌, ◌||◌, nat_le, nat_lt, List, [], ◌∷◌, ◌++◌, length, map, Some, None, refl, sym, ap, ◌∙◌, arith, append_assoc}
use Rattle.std.specs.List.{list_all}
use Rattle.std.specs.Bool.{Decides, IsTrue}
use Rattle.std.specs.Str.{bytes_eq}
use Rattle.std.proofs.lemmas.Slice.Eq.{bytes_eq-Decides}
use Rattle.std.proofs.lemmas.Bool.Decides.{nat_tests}
use Rattle.std.proofs.lemmas.List.{length-append}
use Rattle.script_read.specs.Acts.{is_name}
use Rattle.script_read.specs.Reading.{cut}
use Rattle.script_read.proofs.Cutting.{split-cut, split-uncut, cut-parts}
use Rattle.command_gate.specs.Denied.{lowered, is_denied}
use Rattle.edit_session.specs.Denials.{parts_of, names_in}

or_false : (b : Bool) → (b || false) ≡ b
or_false true = refl
or_false false = refl

and_false : (b : Bool) → (b && false) ≡ false
and_false true = refl
and_false false = refl

-- names are equal apart from their case
abbrev pub is_same : List ℕ → List ℕ → Bool
is_same name other = bytes_eq (lowered name) (lowered other)

same_by : (t r : Bool) (A : Type 0) → Decides t A → (IsTrue r → A) → (A → IsTrue r) → t ≡ r
same_by true true A d f g = refl
same_by false false A d f g = refl
same_by true false A d f g = absurd (let e = g (d.0 refl) in cc)
same_by false true A d f g = absurd (let e = d.1 (f refl) in cc)

pub same_is : (name other : List ℕ) (r : Bool) → (IsTrue r → lowered name ≡ lowered other) → (lowered name ≡ lowered other → IsTrue r) → is_same name other ≡ r
same_is name other r f g = same_by (is_same name other) r (lowered name ≡ lowered other) (bytes_eq-Decides (lowered name) (lowered other)) f g

-- a name stands in a list
abbrev pub stands : List ℕ → List ℕ → Bool
stands name list = is_denied (map lowered (parts_of list)) name

-- so many names are counted, and with those still to come they may be denied
abbrev pub fits : ℕ → List ℕ → Bool
fits count rest = list_all is_name (parts_of rest) && nat_le (count + length (names_in rest)) 16

-- ---- where a comma follows a name

module _ (name more rest : List ℕ) (is : Some (name, more) ≡ cut 44 rest) where
  parts : parts_of rest ≡ name ∷ parts_of more
  parts = split-cut 44 rest (name, more) (sym is)

  pub shorter : length more < length rest
  shorter = rw (cut-parts 44 rest (name, more) (sym is)) (rw (length-append name (44 ∷ more)) (omega arith))

  pub stands_first : (sought : List ℕ) → is_same name sought ≡ true → stands sought rest ≡ true
  unfolding is_denied
  stands_first sought same = rw parts (rw same refl)

  pub stands_later : (sought : List ℕ) → is_same name sought ≡ false → stands sought more ≡ stands sought rest
  unfolding is_denied
  stands_later sought other = rw parts (rw other refl)

  once : stands name more ≡ true → names_in rest ≡ names_in more
  once again = rw parts (rw again refl)

  new : stands name more ≡ false → names_in rest ≡ lowered name ∷ names_in more
  new last = rw parts (rw last refl)

  pub fits_no_name : (count : ℕ) → is_name name ≡ false → fits count rest ≡ false
  fits_no_name count bad = rw parts (rw bad refl)

  named : is_name name ≡ true → list_all is_name (parts_of rest) ≡ list_all is_name (parts_of more)
  named good = rw parts (rw good refl)

  pub fits_again : (count : ℕ) → is_name name ≡ true → stands name more ≡ true → fits count more ≡ fits count rest
  fits_again count good again = sym (rw (named good, once again) refl)

  pub fits_new : (count : ℕ) → is_name name ≡ true → stands name more ≡ false → fits (count + 1) more ≡ fits count rest
  fits_new count good last =
      let n = length (names_in more) in
      let e : nat_le (count + suc n) 16 ≡ nat_le (count + 1 + n) 16 = ap (λ k. nat_le k 16) (omega arith) in
      sym (rw (named good, new last) (ap (λ b. list_all is_name (parts_of more) && b) e))

  pub fits_full : (count : ℕ) → 16 ≤ count → stands name more ≡ false → fits count rest ≡ false
  fits_full count full last =
      let n = length (names_in more) in
      let e : nat_le (count + suc n) 16 ≡ false = grind (arith, nat_tests) in
      rw (new last) (rw e (and_false (list_all is_name (parts_of rest))))

  pub listed_again : (list all : List (List ℕ)) → stands name more ≡ true → list ++ names_in rest ≡ all → list ++ names_in more ≡ all
  listed_again list all again so = ap (λ x. list ++ x) (sym (once again)) ∙ so

  pub listed_new : (list next all : List (List ℕ)) → stands name more ≡ false → next ≡ list ++ lowered name ∷ [] → list ++ names_in rest ≡ all → next ++ names_in more ≡ all
  listed_new list next all last is so = rw is (append_assoc list (lowered name ∷ []) (names_in more)) ∙ ap (λ x. list ++ x) (sym (new last)) ∙ so

-- ---- the last name

module _ (rest : List ℕ) (is : None ≡ cut 44 rest) where
  part : parts_of rest ≡ rest ∷ []
  part = split-uncut 44 rest (sym is)

  pub stands_last : (sought : List ℕ) → stands sought rest ≡ is_same rest sought
  unfolding is_denied
  stands_last sought = rw part (or_false (is_same rest sought))

  sole : names_in rest ≡ lowered rest ∷ []
  unfolding is_denied
  sole = rw part refl

  below : (b : Bool) (count : ℕ) → nat_le (count + 1) 16 ≡ nat_lt count 16 → ((b && true) && nat_le (count + 1) 16) ≡ (b && nat_lt count 16)
  below true count e = e
  below false count e = refl

  pub fits_last : (count : ℕ) → fits count rest ≡ (is_name rest && nat_lt count 16)
  fits_last count =
      let e : nat_le (count + 1) 16 ≡ nat_lt count 16 = grind (arith, nat_tests) in
      ap (λ names. list_all is_name (parts_of rest) && nat_le (count + length names) 16) sole
      ∙ ap (λ parts. list_all is_name parts && nat_le (count + 1) 16) part ∙ below (is_name rest) count e

  pub listed_last : (list next all : List (List ℕ)) → next ≡ list ++ lowered rest ∷ [] → list ++ names_in rest ≡ all → next ≡ all
  listed_last list next all is so = is ∙ ap (λ x. list ++ x) (sym sole) ∙ so
