-- Where the characters that differ give way, the new characters are made.
use Rattle.std.proofs.Common.{◌≡◌, ℕ, suc, ◌+◌, ◌-◌, ◌≤◌, ◌&&◌, true, false, List, [], ◌∷◌, ◌++◌, length, take, drop, reverse, Some, None, refl, sym, ap, ◌∙◌, inl, inr, arith, eqb}
use Rattle.std.proofs.lemmas.Bool.Decides.{eqb_tells, nat_tests}
use Rattle.std.proofs.lemmas.List.{take-append-drop, drop-drop, length-drop, length-reverse, reverse-append, reverse-reverse, take_all}
use Rattle.std.proofs.lemmas.List.Sums.{common_prefix_len-le}
use Rattle.std.proofs.Math.Seq.{drop-append_seam}
use Rattle.forest_changes.proofs.DomModel.Links.{eqb_refl_true}
use Rattle.document_edits.specs.declared.edit.DocumentEdit.TheVariants.{Replace}
use Rattle.document_edits.specs.Followed.{spliced}
use Rattle.document_edits.specs.Replaced.{shared_start, shared_end, replaced, replaced_at}

-- two texts have the same characters as far as they are said to be the same
take-shared : (xs ys : List ℕ) → take (shared_start xs ys) xs ≡ take (shared_start xs ys) ys
take-shared [] ys = refl
take-shared (x ∷ xs) [] = refl
take-shared (x ∷ xs) (y ∷ ys) =
    elim (eqb_tells x y) [
      | inl (t, is) ↦ (
          let more : 1 + shared_start xs ys ≡ suc (shared_start xs ys) = omega arith in
          rw t (rw more (λ i. is i ∷ take-shared xs ys i)))
      | inr (t, _) ↦ rw t refl
    ]

-- the last characters of a text are the first ones of it the other way round
drop-reverse : (xs : List ℕ) (k : ℕ) → k ≤ length xs → drop (length xs - k) xs ≡ reverse (take k (reverse xs))
drop-reverse xs k le =
    let r = reverse xs in
    let front = reverse (drop k r) in
    let parts : xs ≡ front ++ reverse (take k r) =
    sym (reverse-reverse xs) ∙ (ap reverse (sym (take-append-drop k r)) ∙ reverse-append (take k r) (drop k r)) in
    let long : length xs - k ≡ length front = omega (arith, length-reverse (drop k r), length-drop k r, length-reverse xs) in
    (λ i. drop (long i) (parts i)) ∙ drop-append_seam front (reverse (take k r))

drop-shared : (xs ys : List ℕ) → drop (length xs - shared_end xs ys) xs ≡ drop (length ys - shared_end xs ys) ys
drop-shared xs ys =
    let le = common_prefix_len-le eqb (reverse xs) (reverse ys) in
    drop-reverse xs (shared_end xs ys) (omega (arith, le.0, length-reverse xs))
    ∙ (ap reverse (take-shared (reverse xs) (reverse ys))
    ∙ sym (drop-reverse ys (shared_end xs ys) (omega (arith, le.1, length-reverse ys))))

-- where the whole of both texts is the same, they are
pub same-shared : (old new : List ℕ) → (eqb (shared_start old new) (length old) && eqb (shared_start old new) (length new)) ≡ true → old ≡ new
same-shared old new t =
    let at = shared_start old new in
    let ends = both at (length old) (length new) t in
    sym (take_all at old (omega (arith, ends.0))) ∙ (take-shared old new ∙ take_all at new (omega (arith, ends.1)))
  where
    both : (a b c : ℕ) → (eqb a b && eqb a c) ≡ true → (a ≡ b) × (a ≡ c)
    both a b c h = grind (arith, nat_tests)

pub spliced-shared : (old new : List ℕ) (at same : ℕ) → at ≡ shared_start old new → same ≡ shared_end (drop at old) (drop at new) → spliced at (length (drop at old) - same) (take (length (drop at new) - same) (drop at new)) old ≡ new
spliced-shared old new at same start end =
    let gone = drop at old in
    let come = drop at new in
    let front : take at old ≡ take at new = ap (λ k. take k old) start ∙ (take-shared old new ∙ ap (λ k. take k new) (sym start)) in
    let rest : drop (at + (length gone - same)) old ≡ drop (length come - same) come =
    sym (drop-drop (length gone - same) at old)
    ∙ (ap (λ k. drop (length gone - k) gone) end ∙ (drop-shared gone come ∙ ap (λ k. drop (length come - k) come) (sym end))) in
    (λ i. front i ++ (take (length come - same) come ++ rest i))
    ∙ (ap (λ w. take at new ++ w) (take-append-drop (length come - same) come) ∙ take-append-drop at new)

-- ---- the edit that is told

pub replaced_none : (node at : ℕ) (old new : List ℕ) → at ≡ shared_start old new → at ≡ length old → at ≡ length new → None ≡ replaced node old new
unfolding replaced
replaced_none node at old new start long longer =
    let t : (eqb (shared_start old new) (length old) && eqb (shared_start old new) (length new)) ≡ true =
    rw (← start, ← long, ← longer) (rw (eqb_refl_true at) refl) in
    rw t refl

-- the rest of a text, as a part of it that ends with it
rest_of : (at : ℕ) (xs : List ℕ) → take (length xs - at) (drop at xs) ≡ drop at xs
rest_of at xs = take_all (length xs - at) (drop at xs) (omega (arith, length-drop at xs))

pub replaced_some : (node at same : ℕ) (old new put : List ℕ) → at ≡ shared_start old new → (at ≡ length old → at ≡ length new → ⊥)
    → same ≡ shared_end (take (length old - at) (drop at old)) (take (length new - at) (drop at new))
    → put ≡ take (length (take (length new - at) (drop at new)) - same) (take (length new - at) (drop at new))
    → Some (Replace node at (length (take (length old - at) (drop at old)) - same) put) ≡ replaced node old new
unfolding replaced
replaced_some node at same old new put start other end told =
    let gone = take (length old - at) (drop at old) in
    let come = take (length new - at) (drop at new) in
    let whole : Replace node at (length gone - same) put ≡ replaced_at node at gone come =
    (λ i. Replace node at (length gone - end i) (told i))
    ∙ ap (λ k. Replace node at (length gone - shared_end gone come) (take (length come - k) come)) end in
    let t : (eqb (shared_start old new) (length old) && eqb (shared_start old new) (length new)) ≡ false =
    rw (← start) (apart at (length old) (length new) other) in
    rw t (ap Some (whole
    ∙ ((λ i. replaced_at node at (rest_of at old i) (rest_of at new i))
    ∙ ap (λ k. replaced_at node k (drop k old) (drop k new)) start)))
  where
    apart : (a b c : ℕ) → (a ≡ b → a ≡ c → ⊥) → (eqb a b && eqb a c) ≡ false
    apart a b c off = grind (arith, nat_tests)
