-- The steps of an entry applied one way and then the other.
use Rattle.std.proofs.Common.{◌≡◌, ℕ, zero, suc, ◌+◌, ◌≤◌, List, [], ◌∷◌, ◌++◌, length, take, drop, refl, sym, ap, subst, ◌∙◌, arith, length-append}
use Rattle.std.specs.Prelude.{Some, None, slice_get}
use Rattle.std.proofs.lemmas.List.{length-take-le, take-append-drop}
use Rattle.std.proofs.Math.Seq.{take-append_seam, drop-append_seam}
use Rattle.undo_log.specs.Turning.{back, forth, inverses_back, inverses_forth, FitsBack, FitsForth}
use Rattle.undo_log.specs.Log.{first_entry, FitsUndo}
use Rattle.undo_log.specs.Watching.{Seen, SeenMade, SeenUndone}
use Rattle.undo_log.proofs.Turns.{turns_back, turns_forth, FitsBack-past}

module _ {T : Type 0} where
  take_seam : (k : ℕ) (xs ys : List T) → k ≤ length xs → take k (take k xs ++ ys) ≡ take k xs
  take_seam k xs ys le =
      ap (λ n. take n (take k xs ++ ys)) (sym (length-take-le k xs le)) ∙ take-append_seam (take k xs) ys

  drop_seam : (k : ℕ) (xs ys : List T) → k ≤ length xs → drop k (take k xs ++ ys) ≡ ys
  drop_seam k xs ys le =
      ap (λ n. drop n (take k xs ++ ys)) (sym (length-take-le k xs le)) ∙ drop-append_seam (take k xs) ys

  within_seam : (k : ℕ) (xs ys : List T) → k ≤ length xs → k ≤ length (take k xs ++ ys)
  within_seam k xs ys le = omega (arith, length-append (take k xs) ys, length-take-le k xs le)

-- Steps have become zs past the first k of them, and the state t: applied the other way they become
-- what they were, xs and s again, and they are ys
pub record Again {T S : Type 0} (k : ℕ) (xs zs ys : List T) (s : S) (FitsThen : List T → Type 0) (then : List T → S) (become : List T → List T) : Type 0 where
  pub within : k ≤ length zs
  pub steps : drop k zs ≡ ys
  pub fit : FitsThen (drop k zs)
  pub state : then (drop k zs) ≡ s
  pub entry : take k zs ++ become (drop k zs) ≡ xs

module _ {T S : Type 0} (applied : T → S → S) (inverse : T → S → T) (fits : T → S → Type 0)
    (fits_again : (x : T) (s : S) → fits x s → fits (inverse x s) (applied x s))
    (state_again : (x : T) (s : S) → fits x s → applied (inverse x s) (applied x s) ≡ s)
    (step_again : (x : T) (s : S) → fits x s → inverse (inverse x s) (applied x s) ≡ x) where
  pub forth_again : (k : ℕ) (xs zs : List T) (s t : S) → k ≤ length xs → FitsBack applied fits (drop k xs) s → zs ≡ take k xs ++ inverses_back applied inverse (drop k xs) s → t ≡ back applied (drop k xs) s →
      Again k xs zs (inverses_back applied inverse (drop k xs) s) s (λ ys. FitsForth applied fits ys t) (λ ys. forth applied ys t) (λ ys. inverses_forth applied inverse ys t)
  forth_again k xs zs s t le h is at =
      let ys = inverses_back applied inverse (drop k xs) s in
      let d : drop k zs ≡ ys = ap (drop k) is ∙ drop_seam k xs ys le in
      let m : take k zs ≡ take k xs = ap (take k) is ∙ take_seam k xs ys le in
      let r = turns_back applied inverse fits fits_again state_again step_again (drop k xs) s h in
      record {
        within = subst (λ l. k ≤ length l) (sym is) (within_seam k xs ys le);
        steps = d;
        fit = rw (d, at) r.fit;
        state = rw (d, at) r.state;
        entry = rw (d, at, m) (ap (λ l. take k xs ++ l) r.steps ∙ take-append-drop k xs);
      }

  pub back_again : (k : ℕ) (xs zs : List T) (s t : S) → k ≤ length xs → FitsForth applied fits (drop k xs) s → zs ≡ take k xs ++ inverses_forth applied inverse (drop k xs) s → t ≡ forth applied (drop k xs) s →
      Again k xs zs (inverses_forth applied inverse (drop k xs) s) s (λ ys. FitsBack applied fits ys t) (λ ys. back applied ys t) (λ ys. inverses_back applied inverse ys t)
  back_again k xs zs s t le h is at =
      let ys = inverses_forth applied inverse (drop k xs) s in
      let d : drop k zs ≡ ys = ap (drop k) is ∙ drop_seam k xs ys le in
      let m : take k zs ≡ take k xs = ap (take k) is ∙ take_seam k xs ys le in
      let r = turns_forth applied inverse fits fits_again state_again step_again (drop k xs) s h in
      record {
        within = subst (λ l. k ≤ length l) (sym is) (within_seam k xs ys le);
        steps = d;
        fit = rw (d, at) r.fit;
        state = rw (d, at) r.state;
        entry = rw (d, at, m) (ap (λ l. take k xs ++ l) r.steps ∙ take-append-drop k xs);
      }

-- ---- a watcher that counts

module _ {T S : Type 0} (applied : T → S → S) where
  pub counted : (xs : List T) (s : S) (u w : ℕ) → Seen applied (λ (count : ℕ) (step : T) (state : S) (more : ℕ). more ≡ count + 1) xs s u w → w ≡ u + length xs
  unfolding Seen
  counted [] s u w h = omega arith
  counted (x ∷ xs) s u w h = (let k = counted xs (applied x s) h.0 w h.2 in let one = h.1 in omega arith)

-- ---- where there is no entry

module _ {T S W : Type 0} (applied : T → S → S) (inverse : T → S → T) (seen : W → T → S → W → Type 0) where
  none_first : (us : List (List T)) → slice_get us 0 ≡ None → first_entry us ≡ []
  none_first [] e = refl
  none_first (x ∷ us) e = cc

  none_left : (k : ℕ) (xs : List T) → xs ≡ [] → drop k xs ≡ []
  none_left zero xs e = e
  none_left (suc k) [] e = refl
  none_left (suc k) (x ∷ xs) e = cc

  pub made_none : (k : ℕ) (us : List (List T)) (s : S) (u : W) → slice_get us 0 ≡ None → SeenMade applied inverse seen (drop k (first_entry us)) s u u
  unfolding Seen inverses_back back
  made_none k us s u e =
      subst (λ (xs : List T). SeenMade applied inverse seen xs s u u) (sym (none_left k (first_entry us) (none_first us e))) refl

  pub undone_none : (us : List (List T)) (s : S) (u : W) → slice_get us 0 ≡ None → SeenUndone applied inverse seen (first_entry us) s u u
  unfolding Seen inverses_forth forth
  undone_none us s u e =
      subst (λ (xs : List T). SeenUndone applied inverse seen xs s u u) (sym (none_first us e)) refl

-- ---- the first entry

module _ {T S : Type 0} (applied : T → S → S) (fits : T → S → Type 0) where
  pub first_fits : (k : ℕ) (us : List (List T)) (e : List T) (s : S) → slice_get us 0 ≡ Some e → FitsUndo applied fits us s → FitsBack applied fits (drop k e) s
  first_fits k [] e s at h = cc
  first_fits k (x ∷ us) e s at h = (let same : x ≡ e = cc in FitsBack-past applied fits k e s (subst (λ y. FitsBack applied fits y s) same h))
