-- Merging a node with the sibling after it keeps the order, and so does what follows the moves of wrapping.
use Rattle.std.proofs.Common.{◌≡◌, ◌≢◌, ℕ, Bool, true, false, ◌&&◌, if◌then◌else◌, [], Option, Some, None, refl, sym, ap, ◌∙◌}
use Rattle.std.specs.Option.{option_and_then}
use Rattle.std.proofs.lemmas.List.{append-nil}
use Rattle.edit_model.specs.DomModel.Forest.{first_of, last_of, parent_of, next_of, children_of, after_in}
use Rattle.edit_model.proofs.DomModel.Links.{parent_count}
use Rattle.edit_model.proofs.DomModel.Neighbours.{parent_of-next}
use Rattle.edit_model.specs.State.{State}
use Rattle.edit_model.specs.Confined.{is_editable_for}
use Rattle.edit_model.specs.Run.{final, done, answer, given, ◌>>◌, remove}
use Rattle.edit_model.proofs.Steps.{final-bind, final-answer, final-look}
use Rattle.edit_laws.specs.Order.{KeepsOrder, IsKeeping}
use Rattle.edit_laws.specs.MoveLaws.{IsBare}
use Rattle.edit_laws.specs.OrderPreserving.{OrderPreserving}
use Rattle.edit_laws.proofs.MoveLaws.{go_over}
use Rattle.edit_laws.proofs.QuietActions.{keeping_final}
use Rattle.edit_laws.proofs.Slides.{parent_other}
use Rattle.edit_laws.proofs.Subsequences.{keeps_refl, keeps_trans}
use Rattle.edit_laws.proofs.OrderPreserving.{order_preserving, order_preserving_answer, order_preserving_bind, order_preserving_remove}
use Rattle.inline_value.specs.WrapSplit.declared.rule.Criterion.{Criterion}
use Rattle.inline_value.specs.WrapSplit.Breaks.{breaks_from}
use Rattle.inline_value.specs.WrapSplit.Target.{if_fits, meets}
use Rattle.inline_value.specs.WrapSplit.Wrap.{append_break, needs_br, separate_with_br, drop_empty, drop_parent, move_children, merged, merge_next}
use Rattle.command_laws.specs.WrapLaws.{NamesNoThing}
use Rattle.command_laws.proofs.Breaks.{order_preserving_breaks_from}
use Rattle.command_laws.proofs.Criteria.{meets_bare}
use Rattle.command_laws.proofs.NewBreaks.{Spared, appended}

removal : (q : ℕ) → OrderPreserving (remove q >> done)
removal q = order_preserving_bind (remove q) (λ _. done) (order_preserving_remove q) (λ _. order_preserving_answer tt)

module _ (s : State) (is : IsKeeping s) (p q : ℕ) (next : next_of s.trees p ≡ Some q) (bare : IsBare s q) where
  children_go : (o : ℕ) → parent_of s.trees p ≡ Some o → (t : State) → Spared s t p → KeepsOrder t (final (move_children p q) t)
  unfolding move_children
  children_go o up t u =
      let once = is.valid.forest.distinct in
      let beside = parent_of-next s.trees once p q o up next in
      let here = (parent_count s.trees q o once beside).0 in
      let above : p ≢ o = λ e. parent_other s.trees once p o up (sym e) in
      let after : after_in (children_of s.trees o) p ≡ Some q = sym (ap (λ k. option_and_then (λ l. after_in (children_of s.trees l) p) k) up) ∙ next in
      let still : next_of t.trees p ≡ Some q = ap (λ k. option_and_then (λ l. after_in (children_of t.trees l) p) k) (u.parent p o up) ∙ (ap (λ l. after_in l p) (u.children o above) ∙ after) in
      rw final-look (go_over t u.keeping (children_of t.trees q) [] q p still (sym (append-nil (children_of t.trees q))) (λ c h. bare c (sym (u.content q here) ∙ h)))

  merged_keeps : KeepsOrder s (final (merged p q) s)
  unfolding merged separate_with_br
  merged_keeps = by_parent (parent_of s.trees p) refl
    where
      at_parent : (o : ℕ) → parent_of s.trees p ≡ Some o → KeepsOrder s (final (merged p q) s)
      at_parent o up =
          let v = needs_br s p (last_of s.trees p) (first_of s.trees q) in
          let t : State = final (if v then append_break p else done) s in
          let u = appended s is p v in
          let k = children_go o up t u in
          rw (final-look, final-bind, final-look, final-bind)
          (keeps_trans u.keeps (keeps_trans k ((removal q).keeps (final (move_children p q) t) (keeping_final (move_children p q) t u.keeping))))

      by_parent : (k : Option ℕ) → parent_of s.trees p ≡ k → KeepsOrder s (final (merged p q) s)
      by_parent None root = absurd (let e : None ≡ Some q = sym (ap (λ k. option_and_then (λ l. after_in (children_of s.trees l) p) k) root) ∙ next in cc)
      by_parent (Some o) up = at_parent o up

order_preserving_merge : (c : Criterion) (p : ℕ) → NamesNoThing c → OrderPreserving (merge_next c p)
unfolding merge_next
order_preserving_merge c p plain = record { keeps = λ s is. rw final-look (by_next s is (next_of s.trees p) refl) }
  where
    by_test : (s : State) (is : IsKeeping s) (q : ℕ) → next_of s.trees p ≡ Some q → (v w : Bool) → meets c s.trees q ≡ w → KeepsOrder s (final (given (if v && w then Some q else None) done (merged p)) s)
    by_test s is q e true true h = merged_keeps s is p q e (meets_bare c s q plain h)
    by_test s is q e true false h = rw final-answer (keeps_refl _)
    by_test s is q e false w h = rw final-answer (keeps_refl _)

    by_next : (s : State) (is : IsKeeping s) (k : Option ℕ) → next_of s.trees p ≡ k → KeepsOrder s (final (given (if_fits c s k) done (merged p)) s)
    by_next s is None e = rw final-answer (keeps_refl _)
    by_next s is (Some q) e = by_test s is q e (is_editable_for s q) (meets c s.trees q) refl

order_preserving_drop : (o : Option ℕ) → OrderPreserving (drop_parent o)
unfolding drop_parent drop_empty
order_preserving_drop o = search order_preserving

-- what follows the moves
pub order_preserving_rest : (c : Criterion) (p : ℕ) (o : Option ℕ) → NamesNoThing c → OrderPreserving (drop_parent o >> (merge_next c p >> (breaks_from p >> answer (Some p))))
order_preserving_rest c p o plain =
    order_preserving_bind (drop_parent o) _ (order_preserving_drop o) (λ _. order_preserving_bind (merge_next c p) _ (order_preserving_merge c p plain) (λ _. order_preserving_bind (breaks_from p) _ (order_preserving_breaks_from p) (λ _. order_preserving_answer (Some p))))
