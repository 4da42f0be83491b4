-- The names that are looked at before the rows of the display.
use Rattle.std.proofs.Common.{◌≡◌, ℕ, Bool, true, false, ◌||◌, List, [], ◌∷◌, Some, None, codes, refl, sym, subst, true≢false}
use Rattle.std.specs.List.{list_any, AllByRecursion}
use Rattle.std.specs.Str.{bytes_eq}
use Rattle.std.proofs.lemmas.Slice.Eq.{bytes_eq-Decides}
use Rattle.style_table.specs.DefaultStyles.{default_display, display_rows, value_of}

-- what holds of each member holds of one that is among them
of_member : (P : List ℕ → Type 0) (known : List (List ℕ)) (name : List ℕ) → AllByRecursion P known → list_any (λ k. bytes_eq k name) known ≡ true → P name
of_member P [] name all h = absurd (true≢false (sym h))
of_member P (k ∷ rest) name all h = by (bytes_eq k name) refl h (of_member P rest name all.1)
  where
    by : (b : Bool) → bytes_eq k name ≡ b → (b || list_any (λ k. bytes_eq k name) rest) ≡ true → (list_any (λ k. bytes_eq k name) rest ≡ true → P name) → P name
    by true e t more = subst P ((bytes_eq-Decides k name).0 e) all.0
    by false e t more = more t

pub block_shown : (name : List ℕ) → list_any (λ k. bytes_eq k name) (codes "p" ∷ codes "div" ∷ []) ≡ true → Some (codes "block") ≡ default_display name
unfolding default_display display_rows value_of
block_shown name h = of_member (λ n. Some (codes "block") ≡ default_display n) (codes "p" ∷ codes "div" ∷ []) name (refl, (refl, tt)) h

pub plain_shown : (name : List ℕ)
    → list_any (λ k. bytes_eq k name)
    (codes "span" ∷ codes "b" ∷ codes "i" ∷ codes "a" ∷ codes "u" ∷ codes "br" ∷ codes "em" ∷ codes "font" ∷ codes "strong" ∷ []) ≡ true
    → None ≡ default_display name
unfolding default_display display_rows value_of
plain_shown name h =
    of_member (λ n. None ≡ default_display n)
    (codes "span" ∷ codes "b" ∷ codes "i" ∷ codes "a" ∷ codes "u" ∷ codes "br" ∷ codes "em" ∷ codes "font" ∷ codes "strong" ∷ []) name
    (refl, (refl, (refl, (refl, (refl, (refl, (refl, (refl, (refl, tt))))))))) h
