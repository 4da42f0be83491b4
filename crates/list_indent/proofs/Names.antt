-- How a table of names is taken name by name.
use Rattle.std.proofs.Common.{◌≡◌, ℕ, ◌+◌, ◌<◌, ◌≤◌, List, length, drop, map, get_or, Bor, sym, ap, ◌∙◌, subst, drop-cons, add-one}
use Rattle.std.proofs.Math.ListN.{drop_of_length-le}
use Rattle.edit_model.specs.declared.settings.EditFault.{EditFault}
use Rattle.edit_model.specs.State.{State}
use Rattle.edit_model.specs.Run.{Run, final, ◌>>=◌, for_each}
use Rattle.edit_model.specs.Gives.{Fails}
use Rattle.edit_model.proofs.Steps.{final-bind, final-answer, fails-bind}

module _ (xs : List (Bor (List ℕ))) (i : ℕ) (f : List ℕ → Run (Unit {0})) (s : State) where
  abbrev left : ℕ → Run (Unit {0})
  left k = for_each (map (λ (row : Bor (List ℕ)). row.now) (drop k xs)) f

  pub names_end : (whole : State) → length xs ≤ i → final (left i) s ≡ whole → whole ≡ s
  unfolding for_each
  names_end whole h same = sym (rw (drop_of_length-le xs h) at same) ∙ final-answer tt s

  module _ (d : Bor (List ℕ)) (low : i < length xs) where
    turn : final (left i) s ≡ final (f (get_or xs i d).now >>= (λ _. left (i + 1))) s
    unfolding for_each
    turn =
        ap (λ (ys : List (Bor (List ℕ))). final (for_each (map (λ (row : Bor (List ℕ)). row.now) ys) f) s) (drop-cons xs i d low)
        ∙ ap (λ k. final (f (get_or xs i d).now >>= (λ _. left k)) s) (sym (add-one i))

    pub name_done : (t whole : State) → final (f (get_or xs i d).now) s ≡ t → final (left i) s ≡ whole → final (left (i + 1)) t ≡ whole
    name_done t whole to same =
        ap (final (left (i + 1))) (sym to) ∙ (sym (final-bind (f (get_or xs i d).now) (λ _. left (i + 1)) s) ∙ (sym turn ∙ same))

    pub name_fails : (e : EditFault) (whole : State) → Fails e (final (f (get_or xs i d).now) s) → final (left i) s ≡ whole → Fails e whole
    name_fails e whole fails same = subst (Fails e) (sym turn ∙ same) (fails-bind e (f (get_or xs i d).now) (λ _. left (i + 1)) s fails)
