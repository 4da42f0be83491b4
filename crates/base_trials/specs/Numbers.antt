-- Two writes and two swaps in a list of numbers, which the steps of the tests make.
use Rattle.std.proofs.Common.{◌≡◌, ℕ, suc, zero, ◌<◌, List, [], ◌∷◌, length, get_or, refl, sym, ap, ◌∙◌, arith}
use Rattle.std.proofs.Common.{inl, inr}
use Rattle.std.specs.Prelude.{slice_set, slice_index}
use Rattle.std.specs.List.{swap}
use Rattle.std.proofs.lemmas.List.{same_lists}
use Rattle.std.proofs.lemmas.List.Edits.{Swapped, swapped_from_swap, length-swap}
use Rattle.std.proofs.lemmas.Bool.{cases_eq}

pub write_twice : (xs : List ℕ) (i v : ℕ) → slice_set (slice_set xs i v) i (slice_index xs i) ≡ xs
write_twice [] i v = refl
write_twice (x ∷ xs) zero v = refl
write_twice (x ∷ xs) (suc i) v = ap (λ r. x ∷ r) (write_twice xs i v)

swapped_twice : (f g h : ℕ → ℕ) (i j n : ℕ) → Swapped f g i j → Swapped g h i j → h n ≡ f n
swapped_twice f g h i j n p q =
    elim (cases_eq n i) [
      | inl e ↦ ap h e ∙ (q.0 ∙ (p.1 ∙ sym (ap f e)))
      | inr a ↦ elim (cases_eq n j) [
        | inl e ↦ ap h e ∙ (q.1 ∙ (p.0 ∙ sym (ap f e)))
        | inr b ↦ q.2 n a b ∙ p.2 n a b
      ]
    ]

pub swap_twice : (xs : List ℕ) (i j : ℕ) → i < length xs → j < length xs → swap (swap xs i j) i j
    ≡ xs
swap_twice xs i j h k =
    let ys = swap xs i j in
    let l : length ys ≡ length xs = length-swap xs i j in
    let h' : i < length ys = omega arith in
    let k' : j < length ys = omega arith in
    same_lists (swap ys i j) xs (length-swap ys i j ∙ l)
    (λ n d lt. swapped_twice (λ m. get_or xs m d) (λ m. get_or ys m d) (λ m.
    get_or (swap ys i j) m d) i j n (swapped_from_swap xs ys i j d h k refl)
    (swapped_from_swap ys (swap ys i j) i j d h' k' refl))
