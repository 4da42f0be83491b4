-- Extracting a tail leaves each tree that has neither the point's node nor the target.
use Rattle.std.proofs.Common.{◌≡◌, ◌⊎◌, ℕ, ◌<◌, ◌≤◌, true, cond, eqb, Option, Some, sym, ap, ◌∙◌, inl, inr, arith}
use Rattle.std.proofs.lemmas.Bool.Decides.{eqb_tells}
use Rattle.point_order.specs.DomModel.declared.Content.{Content}
use Rattle.point_order.specs.DomModel.Forest.{Forest, count_of, tree_of, parent_of, IsWithin, CanPut}
use Rattle.point_order.specs.DomModel.Forest.Forest.{Nil, Tree}
use Rattle.point_order.proofs.DomModel.Totals.{total-join, total-without, total-unlink}
use Rattle.point_order.proofs.DomModel.Links.{total-link}
use Rattle.point_order.proofs.DomModel.Within.{within_child, within_step}
use Rattle.point_order.proofs.DomModel.Move.{parent_apart}
use Rattle.point_order.specs.LiveRange.declared.places.Point.{Point}
use Rattle.edit_model.specs.State.{State}
use Rattle.edit_model.specs.Edit.{Insert, Remove, trees_after, changed, with_change}
use Rattle.edit_model.specs.Tail.{document_size}
use Rattle.edit_model.specs.Action.{made, applied, stepped_all, tail_of, may_extract}
use Rattle.edit_model.specs.Valid.{IsValid}
use Rattle.edit_model.proofs.Trees.{none_or_some, tree_of-with_leaf_other, within_trans}
use Rattle.edit_model.proofs.Islands.{link_elsewhere, unlink_elsewhere}
use Rattle.edit_model.proofs.TailPossible.{tail_possible}
use Rattle.edit_model.proofs.TailPlan.{AllOf, Fits, IsCopy, is_copy, tail_fits}
use Rattle.edit_model.proofs.TailSteps.{Extracts, extract_tests}
use Rattle.edit_model.proofs.TailRuns.{fit_steps}

module _ (T : Forest Content) (l : ℕ) where
  -- l has this tree
  abbrev Has : State → Type 0
  Has u = (tree_of u.trees l ≡ T) × (0 < count_of u.trees l)

  -- a node that moves: it's l itself, or its tree lies elsewhere; and one into which it goes
  abbrev Moves : ℕ → Type 0
  Moves n = (count_of T n ≡ 0) ⊎ (n ≡ l)

  abbrev Takes : ℕ → Type 0
  Takes p = count_of T p ≡ 0

  has_made : (c : Content) (u : State) → IsValid u → Has u → Has (made c u)
  unfolding made
  has_made c u is h = (
    tree_of-with_leaf_other u.trees u.next l c (λ e. (let b = is.forest.below l h.1 in omega (arith, b, e))) ∙ h.0,
    omega (arith, h.1, total-join (λ m _. cond (eqb m l) 1 0) u.trees (Tree u.next c Nil Nil)),
  )

  has_removed : (n o : ℕ) (u : State) → IsValid u → Moves n → parent_of u.trees n ≡ Some o → Has u → Has (applied (Remove n) u)
  unfolding applied with_change changed trees_after
  has_removed n o u is moves child h =
      let f = u.trees in
      let once = is.forest.distinct in
      let out : count_of (tree_of f l) o ≡ 0 = elim (none_or_some (count_of (tree_of f l) o)) [
        | inl none ↦ none
        | inr some ↦ absurd (elim moves [
          | inl off ↦ (let below = within_child f l once h.1 n o child some in omega (arith, below, off, ap (λ g. count_of g n) h.0))
          | inr at ↦ parent_apart f l o once (ap (parent_of f) (sym at) ∙ child) some
        ])
      ] in (
        unlink_elsewhere f o n l once child h.1 out ∙ h.0,
        omega (arith, h.1, total-unlink (λ m _. cond (eqb m l) 1 0) f n),
      )

  has_inserted : (p : ℕ) (b : Option ℕ) (n : ℕ) (u : State) → IsValid u → Takes p → CanPut u.trees p b n → Has u → Has (applied (Insert p b n) u)
  unfolding applied with_change changed trees_after
  has_inserted p b n u is takes can h = (
    link_elsewhere u.trees p b n l is.forest.distinct can h.1 (ap (λ g. count_of g p) h.0 ∙ takes) ∙ h.0,
    omega (arith, h.1, total-link u.trees p b n is.forest.distinct can (λ m _. cond (eqb m l) 1 0)),
  )

  pub tree_extracted : (s : State) → IsValid s → (from : Point) (end target : ℕ) → may_extract s from end target ≡ true → tree_of s.trees l ≡ T → 0 < count_of s.trees l → count_of T from.label ≡ 0 → count_of T target ≡ 0 → tree_of (stepped_all (tail_of s from end target) s).trees l ≡ T
  unfolding tail_of
  tree_extracted s is from end target may same there from_out target_out =
      (fit_steps IsCopy Moves Takes (λ c k. k) Has (λ c u is' _ h. has_made c u is' h) (λ n o u is' moves child h. has_removed n o u is' moves child h) (λ p b n u is' takes _ can h. has_inserted p b n u is' takes can h)
      (tail_of s from end target) s fits (tail_possible s is from end target may) is (same, there)).0
    where
      tests : Extracts s from end target
      tests = extract_tests s from end target may

      absent : (j : ℕ) → s.next ≤ j → count_of T j ≡ 0
      absent j high = elim (none_or_some (count_of T j)) [
        | inl none ↦ none
        | inr some ↦ absurd (
            let low = is.forest.below j (omega (arith, some, ap (λ g. count_of g j) same, total-without (λ m _. cond (eqb m j) 1 0) s.trees l)) in
            omega (arith, low, high))
      ]

      moves : (c x : ℕ) → IsWithin s.trees c from.label → parent_of s.trees x ≡ Some c → Moves x
      moves c x path child = elim (none_or_some (count_of T x)) [
        | inl none ↦ inl none
        | inr some ↦ elim (eqb_tells l x) [
          | inl (_, e) ↦ inr (sym e)
          | inr (_, off) ↦ absurd (
              let once = is.forest.distinct in
              let held : IsWithin s.trees l x = omega (arith, some, ap (λ g. count_of g x) same) in
              let up = within_step s.trees l once there x c off child held in
              let below = within_trans s.trees l c from.label once up path in
              omega (arith, below, from_out, ap (λ g. count_of g from.label) same))
        ]
      ]

      fits : AllOf (Fits IsCopy Moves Takes) (tail_of s from end target)
      fits =
          tail_fits IsCopy Moves Takes s.trees is.forest.distinct s.next from (λ c. IsWithin s.trees c from.label) (λ c k _ _ w. w) moves (λ k _. is_copy s.trees is.forest.nodes k)
          (λ j high. inl (absent j high)) absent (document_size s.trees) end target s.next tests.below target_out (omega arith)
