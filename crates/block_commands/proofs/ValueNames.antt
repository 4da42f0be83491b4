-- Texts that name no block: those with a character past ASCII.
use Rattle.std.proofs.Common.{◌≡◌, ℕ, zero, suc, ◌<◌, ◌≤◌, Bool, true, false, ◌&&◌, ◌||◌, List, [], ◌∷◌, map, length, get_or, refl, sym, ap, ◌∙◌, inl, inr, arith, nat_lt, bytes_eq}
use Rattle.std.specs.Char.{to_ascii_lowercase}
use Rattle.std.specs.List.{list_all}
use Rattle.std.proofs.lemmas.Bool.{le-ltb}
use Rattle.std.proofs.lemmas.Bool.{cases_Bool}
use Rattle.std.proofs.lemmas.Bool.Decides.{nat_tests}
use Rattle.std.proofs.lemmas.Slice.Eq.{bytes_eq-Decides}
use Rattle.std.proofs.lemmas.Str.Ascii.{lowercase_is}
use Rattle.edit_model.specs.HtmlNames.ElementNames.{is_one_of, is_formattable_block, formattable_block_names}

abbrev low : List ℕ → Bool
low text = list_all (λ c. nat_lt c 128) text

and_false : (a : Bool) → (a && false) ≡ false
and_false true = refl
and_false false = refl

-- a text that isn't in ASCII is none of a table of texts that are
absent : (table : List (List ℕ)) (text : List ℕ) → list_all low table ≡ true → low text ≡ false → is_one_of table text ≡ false
absent [] text all high = refl
absent (row ∷ table) text all high = ap (λ b. b || is_one_of table text) other ∙ absent table text rest high
  where
    own : low row ≡ true
    own = elim (cases_Bool (low row)) [ inl t ↦ t | inr t ↦ absurd (let u : list_all low (row ∷ table) ≡ false = ap (λ b. b && list_all low table) t in let v = all in cc) ]

    rest : list_all low table ≡ true
    rest = sym (ap (λ b. b && list_all low table) own) ∙ all

    other : bytes_eq row text ≡ false
    other = elim (cases_Bool (bytes_eq row text)) [ inl t ↦ absurd (let u = ap low ((bytes_eq-Decides row text).0 t) in let v = own in let w = high in cc) | inr t ↦ t ]

high_in : (text : List ℕ) (k d : ℕ) → k < length text → 128 ≤ get_or text k d → low (map to_ascii_lowercase text) ≡ false
high_in [] k d h high = absurd (omega (arith, h))
high_in (c ∷ text) zero d h high =
    let same : to_ascii_lowercase c ≡ c = (lowercase_is c).2 (omega (arith, high)) in
    ap (λ b. b && low (map to_ascii_lowercase text)) (ap (λ x. nat_lt x 128) same ∙ le-ltb c 128 high)
high_in (c ∷ text) (suc k) d h high = ap (λ b. nat_lt (to_ascii_lowercase c) 128 && b) (high_in text k d (omega (arith, h)) high) ∙ and_false (nat_lt (to_ascii_lowercase c) 128)

pub names_none : (text : List ℕ) (k d : ℕ) → k < length text → 128 ≤ get_or text k d → is_formattable_block (map to_ascii_lowercase text) ≡ false
unfolding is_formattable_block formattable_block_names
names_none text k d h high = absent formattable_block_names (map to_ascii_lowercase text) refl (high_in text k d h high)

pub past : (c : ℕ) → nat_lt c 128 ≡ false → 128 ≤ c
past c e = grind (arith, nat_tests)
