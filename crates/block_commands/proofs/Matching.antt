-- What a style that sets one property sets it to.
use Rattle.std.proofs.Common.{◌≡◌, ℕ, zero, suc, ◌+◌, ◌<◌, ◌≤◌, Bool, true, false, ◌&&◌, List, [], ◌∷◌, length, drop, refl, sym, ap, ◌∙◌, inl, inr, arith, add-one, bytes_eq}
use Rattle.std.specs.Prelude.{slice_get, codes}
use Rattle.std.specs.List.{list_all}
use Rattle.std.proofs.lemmas.List.{drop_all}
use Rattle.std.specs.Option.{option_map_or}
use Rattle.std.proofs.lemmas.Bool.{cases_Bool}
use Rattle.std.proofs.lemmas.Slice.Eq.{bytes_eq-Decides}
use Rattle.inline_value.specs.CssValue.StyleText.{Declaration}
use Rattle.inline_value.specs.CssValue.DeclarationList.{value_of, names_of}
use Rattle.inline_value.specs.CssValue.OnlyGroup.{is_only}
use Rattle.inline_value.specs.WrapSplit.Target.{is_text_align}

pub bytes_swap : (a b : List ℕ) → bytes_eq a b ≡ bytes_eq b a
bytes_swap a b = elim (cases_Bool (bytes_eq a b)) [
  | inl t ↦ t ∙ sym ((bytes_eq-Decides b a).1 (sym ((bytes_eq-Decides a b).0 t)))
  | inr t ↦ elim (cases_Bool (bytes_eq b a)) [ inl u ↦ absurd (let v = (bytes_eq-Decides a b).1 (sym ((bytes_eq-Decides b a).0 u)) in cc) | inr u ↦ t ∙ sym u ]
]

pub other_style : (alignment : List ℕ) (list : List Declaration) → is_only (codes "text-align") (names_of list) ≡ false → is_text_align alignment list ≡ false
other_style alignment [] e = refl
other_style alignment (d ∷ []) e = ap (λ b. b && bytes_eq d.value alignment) (bytes_swap d.name (codes "text-align") ∙ e)
other_style alignment (d ∷ c ∷ list) e = refl

pub own_style : (alignment : List ℕ) (list : List Declaration) → is_only (codes "text-align") (names_of list) ≡ true → is_text_align alignment list ≡ option_map_or (λ v. bytes_eq v alignment) (value_of list (codes "text-align")) false
own_style alignment [] e = absurd (let t = e in cc)
own_style alignment (d ∷ []) e =
    let named : bytes_eq d.name (codes "text-align") ≡ true = bytes_swap d.name (codes "text-align") ∙ e in
    rw (named, e) refl
own_style alignment (d ∷ c ∷ list) e = absurd (let t = e in cc)

-- ---- whether each of a list passes, member by member

module _ {A : Type 0} (test : A → Bool) where
  passes_by : (xs : List A) (i : ℕ) → option_map_or test (slice_get xs i) false ≡ true → list_all test (drop i xs) ≡ list_all test (drop (suc i) xs)
  passes_by [] i e = absurd (let t = e in cc)
  passes_by (x ∷ xs) zero e = ap (λ b. b && list_all test xs) e
  passes_by (x ∷ xs) (suc i) e = passes_by xs i e

  pub passes_at : (xs : List A) (i : ℕ) → option_map_or test (slice_get xs i) false ≡ true → list_all test (drop i xs) ≡ list_all test (drop (i + 1) xs)
  passes_at xs i e = rw add-one (passes_by xs i e)

  pub fails_at : (xs : List A) (i : ℕ) → i < length xs → option_map_or test (slice_get xs i) false ≡ false → list_all test (drop i xs) ≡ false
  fails_at [] i low e = absurd (omega (arith, low))
  fails_at (x ∷ xs) zero low e = ap (λ b. b && list_all test xs) e
  fails_at (x ∷ xs) (suc i) low e = fails_at xs i (omega (arith, low)) e

  pub all_end : (xs : List A) (i : ℕ) → length xs ≤ i → list_all test (drop i xs) ≡ true
  all_end xs i h = ap (list_all test) (drop_all i xs h)
