-- A loop whose turns each are done with some first members of a list.
use Rattle.std.proofs.Common.{◌≡◌, ℕ, ◌+◌, ◌-◌, ◌<◌, ◌≤◌, List, length, drop, sym, ap, subst, ◌∙◌}
use Rattle.edit_model.specs.NodeArena.declared.NodeRef.{NodeRef}
use Rattle.edit_model.specs.Gives.{labels_of, Fails}
use Rattle.edit_model.specs.Run.{Run, ◌>>=◌, ◌>>◌, final, value, done, look, while_at_most}
use Rattle.edit_model.specs.State.{State}
use Rattle.edit_model.specs.declared.settings.EditFault.{EditFault}
use Rattle.edit_model.proofs.Steps.{final-bind, final-look, final-answer, fails-bind, final_while_turn, final_while_stop}
use Rattle.inline_value.specs.WrapSplit.Walks.{turn_bound}
use Rattle.block_commands.specs.Series.{has_members}
use Rattle.block_commands.proofs.Counting.{members_on, members_off, drop_more}

module _ (body : List ℕ → Run (List ℕ)) (xs : List NodeRef) where
  abbrev loop : ℕ → List ℕ → Run (List ℕ)
  loop n list = while_at_most n has_members body list

  abbrev from : ℕ → List ℕ
  from i = labels_of (drop i xs)

  -- the whole loop
  abbrev run : Run (Unit {0})
  run = look λ s. loop (turn_bound s) (labels_of xs) >> done

  abbrev k : State → Run (Unit {0})
  k s = loop (turn_bound s) (labels_of xs) >> done

  module _ (n i : ℕ) (s : State) (some : 0 < n) (low : i < length xs) where
    turned : final (loop n (from i)) s ≡ final (body (from i) >>= loop (n - 1)) s
    turned = final_while_turn n has_members body (from i) s some (members_on s xs i low)

    pub turn : (count : ℕ) (t : State) → final (body (from i)) s ≡ t → value (body (from i)) s ≡ labels_of (drop count (drop i xs)) → final (loop (n - 1) (from (i + count))) t ≡ final (loop n (from i)) s
    turn count t f v =
        sym
        (turned
        ∙ (final-bind (body (from i)) (loop (n - 1)) s
        ∙ (ap (λ u. final (loop (n - 1) u) (final (body (from i)) s)) (v ∙ ap labels_of (drop_more xs i count))
        ∙ ap (λ u. final (loop (n - 1) (from (i + count))) u) f)))

    -- what ends past the cap in one turn does so in all
    pub run_fails : (e : EditFault) (first : State) → final (loop n (from i)) s ≡ final (loop (turn_bound first) (labels_of xs)) first → Fails e (final (body (from i)) s) → Fails e (final run first)
    run_fails e first same h =
        let here : Fails e (final (loop n (from i)) s) = subst (Fails e) (sym turned) (fails-bind e (body (from i)) (loop (n - 1)) s h) in
        let all : Fails e (final (loop (turn_bound first) (labels_of xs)) first) = subst (Fails e) same here in
        subst (Fails e) (sym (final-look k first)) (fails-bind e (loop (turn_bound first) (labels_of xs)) (λ _. done) first all)

  pub run_ends : (n i : ℕ) (s first : State) → length xs ≤ i → final (loop n (from i)) s ≡ final (loop (turn_bound first) (labels_of xs)) first → final run first ≡ s
  run_ends n i s first none same =
      final-look k first
      ∙ (final-bind (loop (turn_bound first) (labels_of xs)) (λ _. done) first
      ∙ (final-answer tt (final (loop (turn_bound first) (labels_of xs)) first)
      ∙ (sym same
      ∙ final_while_stop n has_members body (from i) s (members_off s xs i none))))
