-- How a list is taken series by series.
use Rattle.std.proofs.Common.{◌≡◌, ℕ, zero, suc, ◌+◌, ◌-◌, ◌<◌, ◌≤◌, Bool, List, [], ◌∷◌, length, take, drop, map, min, get_or, refl, sym, ap, ◌∙◌, subst, arith}
use Rattle.std.proofs.Math.ListN.{drop_of_length-le}
use Rattle.std.proofs.lemmas.List.{length-take, length-drop, drop-drop, get_or-take, get_or-drop}
use Rattle.std.proofs.lemmas.List.Elements.{All-drop}
use Rattle.std.specs.List.{All}
use Rattle.edit_model.specs.NodeArena.declared.NodeRef.{NodeRef}
use Rattle.edit_model.specs.State.{State}
use Rattle.edit_model.specs.Run.{Run, final, ◌>>=◌, answer, look}
use Rattle.edit_model.specs.declared.settings.EditFault.{EditFault}
use Rattle.edit_model.specs.Gives.{labels_of, Fails}
use Rattle.edit_model.proofs.Steps.{steps, final-bind, fails-bind, length-labels_of}
use Rattle.inline_value.specs.EditDoc.Whole.{Whole}
use Rattle.inline_value.specs.EditDoc.Held.{Holds, EachHeld}
use Rattle.inline_value.specs.BlockExtend.Series.{count_after, count_series}
use Rattle.inline_value.proofs.EditQuery.Lists.{labels_mapped, all_held, labels_of_front, labels_of_rest, tail_is}
use Rattle.list_indent.specs.Series.{take_series, series_at_most, for_series}

-- ---- more turns than there are series change nothing

shorter : (on : ℕ → ℕ → Bool) (x : ℕ) (xs : List ℕ) (n : ℕ) → length (x ∷ xs) ≤ suc n → length (take_series on (x ∷ xs)).1 ≤ n
shorter on x xs n h = rw (length-drop (count_after on x xs + 1) (x ∷ xs)) (omega (arith, h))

enough : (on : State → ℕ → ℕ → Bool) (body : List ℕ → Run (Unit {0})) (n m : ℕ) (xs : List ℕ) (s : State) → length xs ≤ n → length xs ≤ m →
    final (series_at_most n on body xs) s ≡ final (series_at_most m on body xs) s
unfolding series_at_most look ◌>>=◌ final
enough on body zero zero xs s h k = refl
enough on body zero (suc m) [] s h k = refl
enough on body zero (suc m) (x ∷ xs) s h k = absurd (omega arith)
enough on body (suc n) zero [] s h k = refl
enough on body (suc n) zero (x ∷ xs) s h k = absurd (omega arith)
enough on body (suc n) (suc m) [] s h k = refl
enough on body (suc n) (suc m) (x ∷ xs) s h k =
    let series = take_series (on s) (x ∷ xs) in
    enough on body n m series.1 (final (body series.0) s) (shorter (on s) x xs n h) (shorter (on s) x xs m k)

-- ---- a turn, and the end

first_turn : (on : State → ℕ → ℕ → Bool) (body : List ℕ → Run (Unit {0})) (xs : List ℕ) (s : State) → 0 < length xs →
    final (for_series on body xs) s
    ≡ final (body (take (count_series (on s) xs) xs) >>= (λ _. for_series on body (drop (count_series (on s) xs) xs))) s
unfolding for_series series_at_most look ◌>>=◌ final
first_turn on body [] s h = absurd (omega arith)
first_turn on body (x ∷ xs) s h =
    let series = take_series (on s) (x ∷ xs) in
    let less : length (x ∷ xs) ≤ suc (length xs) = omega arith in
    let same : length series.1 ≤ length series.1 = omega arith in
    enough on body (length xs) (length series.1) series.1 (final (body series.0) s) (shorter (on s) x xs (length xs) less) same

pub series_turn : (on : State → ℕ → ℕ → Bool) (body : List ℕ → Run (Unit {0})) (xs : List NodeRef) (at n : ℕ) (s : State) → at < length xs
    → n ≡ count_series (on s) (map (λ r. r.label) (drop at xs))
    → final (for_series on body (labels_of (drop at xs))) s
    ≡ final (body (labels_of (take n (drop at xs))) >>= (λ _. for_series on body (labels_of (drop (at + n) xs)))) s
series_turn on body xs at n s h count =
    let some : 0 < length (labels_of (drop at xs)) = rw (length-labels_of (drop at xs), length-drop at xs) (omega (arith, h)) in
    let n_is : count_series (on s) (labels_of (drop at xs)) ≡ n = sym (count ∙ ap (count_series (on s)) (labels_mapped (drop at xs))) in
    let rest : drop n (labels_of (drop at xs)) ≡ labels_of (drop (at + n) xs) = sym (labels_of_rest (drop at xs) n) ∙ ap labels_of (drop-drop n at xs) in
    first_turn on body (labels_of (drop at xs)) s some
    ∙ ap (λ j. final (body (take j (labels_of (drop at xs))) >>= (λ _. for_series on body (drop j (labels_of (drop at xs))))) s) n_is
    ∙ ap (λ ys. final (body ys >>= (λ _. for_series on body (drop n (labels_of (drop at xs))))) s) (sym (labels_of_front (drop at xs) n))
    ∙ ap (λ ys. final (body (labels_of (take n (drop at xs))) >>= (λ _. for_series on body ys)) s) rest

pub series_end : (on : State → ℕ → ℕ → Bool) (body : List ℕ → Run (Unit {0})) (xs : List NodeRef) (at : ℕ) → length xs ≤ at →
    for_series on body (labels_of (drop at xs)) ≡ answer tt
unfolding for_series series_at_most
series_end on body xs at h = rw (drop_of_length-le xs h) refl

pub ruleset series = (steps, series_end)

-- a turn that is done, and one in which a fault comes

module _ (on : State → ℕ → ℕ → Bool) (body : List ℕ → Run (Unit {0})) (xs part : List NodeRef) (at n : ℕ) (s : State) (low : at < length xs)
    (count : n ≡ count_series (on s) (map (λ r. r.label) (take (length xs - at) (drop at xs)))) (is : part ≡ take n (take (length xs - at) (drop at xs))) where
  turn : final (for_series on body (labels_of (drop at xs))) s
      ≡ final (body (labels_of part) >>= (λ _. for_series on body (labels_of (drop (at + n) xs)))) s
  turn =
      series_turn on body xs at n s low (count ∙ ap (λ ys. count_series (on s) (map (λ r. r.label) ys)) (tail_is xs at))
      ∙ ap (λ ys. final (body (labels_of ys) >>= (λ _. for_series on body (labels_of (drop (at + n) xs)))) s) (sym (is ∙ ap (take n) (tail_is xs at)))

  pub turn_done : (t whole : State) → final (body (labels_of part)) s ≡ t → final (for_series on body (labels_of (drop at xs))) s ≡ whole
      → final (for_series on body (labels_of (drop (at + n) xs))) t ≡ whole
  turn_done t whole to same =
      ap (final (for_series on body (labels_of (drop (at + n) xs)))) (sym to)
      ∙ (sym (final-bind (body (labels_of part)) (λ _. for_series on body (labels_of (drop (at + n) xs))) s) ∙ (sym turn ∙ same))

  pub turn_fails : (e : EditFault) (whole : State) → Fails e (final (body (labels_of part)) s) → final (for_series on body (labels_of (drop at xs))) s ≡ whole → Fails e whole
  turn_fails e whole fails same =
      subst (Fails e) (sym turn ∙ same) (fails-bind e (body (labels_of part)) (λ _. for_series on body (labels_of (drop (at + n) xs))) s fails)

-- ---- what is held of a list is held of a part of it

pub held_drop : (d : Whole) (xs : List NodeRef) (at : ℕ) → EachHeld d xs → All (Holds d) (drop at xs)
held_drop d xs at held = All-drop (Holds d) at xs (all_held d xs held)

pub held_part : (d : Whole) (xs : List NodeRef) (at n : ℕ) → EachHeld d xs → EachHeld d (take n (drop at xs))
held_part d xs at n held = λ k low. at_place k low
  where
    at_place : (k : ℕ) → k < length (take n (drop at xs)) → Holds d (get_or (take n (drop at xs)) k record { slot = 0; label = 0 })
    at_place k low =
        let few : k < min n (length xs - at) = rw (length-take, length-drop) at low in
        let in_part : k < n = omega (arith, few) in
        let in_list : at + k < length xs = omega (arith, few) in
        rw (get_or-take n (drop at xs) k record { slot = 0; label = 0 } in_part, get_or-drop at xs k record { slot = 0; label = 0 }) (held (at + k) in_list)
