-- Where characters occur in a text: from offset to offset.
use Rattle.std.proofs.Common.{◌≡◌, ℕ, zero, suc, ◌+◌, ◌-◌, ◌<◌, true, false, List, [], ◌∷◌, length, drop, get_or, nat_eq, refl, sym, ap, ◌∙◌, arith, drop-cons}
use Rattle.std.specs.List.{starts_with}
use Rattle.std.proofs.lemmas.Bool.Decides.{nat_tests}
use Rattle.std.proofs.lemmas.List.{drop-drop}
use Rattle.std.specs.Prelude.{◌==◌}
use Rattle.node_texts.specs.Occurrences.{offsets, offsets_from}

-- characters that belong to an occurrence are passed over
passed_over : (w : List ℕ) (at k : ℕ) (cs : List ℕ) → offsets_from w at k cs ≡ offsets_from w (at + k) 0 (drop k cs)
passed_over w at zero cs = let e : at + 0 ≡ at = omega arith in rw e refl
passed_over w at (suc k) [] = refl
passed_over w at (suc k) (c ∷ cs) =
    let e : at + suc k ≡ suc at + k = omega arith in
    passed_over w (suc at) k cs ∙ sym (ap (λ n. offsets_from w n 0 (drop k cs)) e)

pub found_first : (w cs : List ℕ) → 0 < length w → offsets w cs ≡ offsets_from w 0 0 cs
found_first [] cs some = absurd (omega (arith, some))
found_first (x ∷ xs) cs some = refl

found_at : (w : List ℕ) (at : ℕ) (c : ℕ) (cs : List ℕ) → starts_with nat_eq (c ∷ cs) w ≡ true → offsets_from w at 0 (c ∷ cs) ≡ at ∷ offsets_from w (suc at) (length w - 1) cs
found_at w at c cs t = rw t refl

not_at : (w : List ℕ) (at : ℕ) (c : ℕ) (cs : List ℕ) → starts_with nat_eq (c ∷ cs) w ≡ false → offsets_from w at 0 (c ∷ cs) ≡ offsets_from w (suc at) 0 cs
not_at w at c cs t = rw t refl

pub found_here : (w cs : List ℕ) (at : ℕ) → at < length cs → 0 < length w → starts_with nat_eq (drop at cs) w ≡ true
    → offsets_from w at 0 (drop at cs) ≡ at ∷ offsets_from w (at + length w) 0 (drop (at + length w) cs)
found_here w cs at within some t =
    let split : drop at cs ≡ get_or cs at 0 ∷ drop (suc at) cs = drop-cons cs at 0 within in
    let t' : starts_with nat_eq (get_or cs at 0 ∷ drop (suc at) cs) w ≡ true = rw (← split) t in
    let past : suc at + (length w - 1) ≡ at + length w = omega (arith, some) in
    rw split (found_at w at (get_or cs at 0) (drop (suc at) cs) t' ∙ ap (λ xs. at ∷ xs) (passed_over w (suc at) (length w - 1) (drop (suc at) cs) ∙ rw (drop-drop (length w - 1) (suc at) cs, past) refl))

pub not_here : (w cs : List ℕ) (at : ℕ) → at < length cs → starts_with nat_eq (drop at cs) w ≡ false
    → offsets_from w at 0 (drop at cs) ≡ offsets_from w (at + 1) 0 (drop (at + 1) cs)
not_here w cs at within t =
    let split : drop at cs ≡ get_or cs at 0 ∷ drop (suc at) cs = drop-cons cs at 0 within in
    let t' : starts_with nat_eq (get_or cs at 0 ∷ drop (suc at) cs) w ≡ false = rw (← split) t in
    let one : at + 1 ≡ suc at = omega arith in
    rw (one, split) (not_at w at (get_or cs at 0) (drop (suc at) cs) t')

pub some_wanted : (n : ℕ) → (n == 0) ≡ false → 0 < n
some_wanted n h = grind (arith, nat_tests, h)
