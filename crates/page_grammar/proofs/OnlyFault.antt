-- A page has at most one fault.
use Rattle.std.proofs.Common.{◌≡◌, ℕ, inl, inr, List, [], ◌∷◌, length, Option, Some, None, refl, sym, ap, ◌∙◌, subst, arith}
use Rattle.std.proofs.lemmas.Bool.{cases_lt}
use Rattle.page_grammar.specs.Kind.{Kind, page_limit, page_fault}
use Rattle.page_grammar.specs.Rows.{Row, table, IsFirst, IsPlaceOf, IsFault}
use Rattle.page_grammar.proofs.Faults.{fault_is}

first_one : (R : Kind → Type 0) (ks : List Kind) (x y : Kind) → IsFirst R ks x → IsFirst R ks y → x ≡ y
first_one R [] x y h k = elim h [ ]
first_one R (z ∷ zs) x y (inl h) (inl k) = h.1 ∙ sym k.1
first_one R (z ∷ zs) x y (inl h) (inr k) = absurd (k.0 h.0)
first_one R (z ∷ zs) x y (inr h) (inl k) = absurd (h.0 k.0)
first_one R (z ∷ zs) x y (inr h) (inr k) = first_one R zs x y h.1 k.1

one_place : (d c : ℕ) (s : List ℕ) (k j : ℕ) → IsPlaceOf d c s k → IsPlaceOf d c s j → k ≡ j
one_place d c s k j a b =
    elim (cases_lt page_limit (length s)) [
      | inl lt ↦ a.too_long lt ∙ sym (b.too_long lt)
      | inr ge ↦ let x = a.longest ge in
          let y = b.longest ge in
          let le = y.longest k x.within x.here in
          let up = x.longest j y.within y.here in
          omega arith
    ]

one_fault : (d c : ℕ) (s : List ℕ) (a b : Option (ℕ × Kind)) → IsFault d c s a → IsFault d c s b → a ≡ b
one_fault d c s None None h k = refl
one_fault d c s None (Some y) h k = absurd (k.0 h)
one_fault d c s (Some x) None h k = absurd (h.0 k)
one_fault d c s (Some (k, x)) (Some (j, y)) h g =
    let place = one_place d c s k j h.1 g.1 in
    let kind = first_one (Row d c s j) table x y (subst (λ z. IsFirst (Row d c s z) table x) place h.2) g.2 in
    ap (λ z. Some (z, x)) place ∙ ap (λ z. Some (j, z)) kind

pub only_fault : (d c : ℕ) (s : List ℕ) (o : Option (ℕ × Kind)) → IsFault d c s o → o ≡ page_fault d c s
only_fault d c s o h = one_fault d c s o (page_fault d c s) h (fault_is d c s)
