-- Extracting a tail leaves what lies outside the affected host.
use Rattle.std.proofs.Common.{◌≡◌, ◌≢◌, ℕ, ◌<◌, ◌≤◌, true, false, cond, eqb, Option, Some, None, refl, sym, ap, ◌∙◌, inl, inr, arith, true≢false}
use Rattle.std.specs.Option.{option_map_or}
use Rattle.std.proofs.lemmas.Bool.{leb-true}
use Rattle.point_order.specs.DomModel.declared.Content.{Content}
use Rattle.point_order.specs.DomModel.Editing.{editing_host, is_editable}
use Rattle.point_order.specs.DomModel.Forest.{Forest, count_of, tree_of, parent_of, IsWithin, CanPut}
use Rattle.point_order.proofs.DomModel.Totals.{total-without}
use Rattle.point_order.proofs.DomModel.Links.{tree_of_absent}
use Rattle.point_order.specs.LiveRange.declared.places.Point.{Point}
use Rattle.edit_model.specs.State.{State}
use Rattle.edit_model.specs.Confined.{is_editable_for, is_made}
use Rattle.edit_model.specs.Edit.{Insert, Remove, trees_after, changed, with_change}
use Rattle.edit_model.specs.Tail.{document_size}
use Rattle.edit_model.specs.Action.{made, applied, stepped_all, tail_of, may_extract, extracted}
use Rattle.edit_model.specs.Valid.{IsValid}
use Rattle.edit_model.specs.Outside.{hollowed, outside_by, outside, IsConfined}
use Rattle.edit_model.proofs.CommandParts.{command_steps}
use Rattle.edit_model.proofs.Tests.{label_is}
use Rattle.edit_model.proofs.Trees.{none_or_some}
use Rattle.edit_model.proofs.Documents.{document-link, document-unlink, document-with_leaf}
use Rattle.edit_model.proofs.Hollow.{hollowed_le, hollowed-put_under, hollowed-without, editable_below, child_below, below_left_out}
use Rattle.edit_model.proofs.TailPossible.{tail_possible}
use Rattle.edit_model.proofs.TailPlan.{AllOf, Fits, IsCopy, is_copy, tail_fits}
use Rattle.edit_model.proofs.TailSteps.{Extracts, extract_tests, either_extracted}
use Rattle.edit_model.proofs.TailRuns.{fit_steps}

-- an editable node has the affected host as its host
pub host_of : (s : State) (l : ℕ) → is_editable_for s l ≡ true → (h : ℕ) × (s.host ≡ Some h) × (editing_host s.trees l ≡ Some h)
unfolding is_editable_for
host_of s l e = by_host s.host refl e
  where
    by_host : (o : Option ℕ) → s.host ≡ o → option_map_or (λ h. is_editable s.trees h l) o false ≡ true → (h : ℕ) × (s.host ≡ Some h) × (editing_host s.trees l ≡ Some h)
    by_host None is e = absurd (true≢false (sym e))
    by_host (Some h) is e = (h, is, label_is (editing_host s.trees l) h e)

-- ---- what lies outside

module _ (h : ℕ) (base : Forest Content) where
  -- the forest without what is below h
  abbrev pub Base : State → Type 0
  Base u = hollowed (tree_of u.trees 0) h ≡ base

  -- a node that moves, and one into which it goes
  abbrev pub Moves : ℕ → Type 0
  Moves n = (count_of base n ≡ 0) × (n ≢ h)

  abbrev pub Takes : ℕ → Type 0
  Takes p = count_of base p ≡ 0

  pub base_made : (c : Content) (u : State) → IsValid u → Base u → Base (made c u)
  unfolding made
  base_made c u is b = ap (λ g. hollowed g h) (document-with_leaf u.trees u.next is.forest u.next c) ∙ b

  pub base_removed : (n o : ℕ) (u : State) → IsValid u → Moves n → parent_of u.trees n ≡ Some o → Base u → Base (applied (Remove n) u)
  unfolding applied with_change changed trees_after
  base_removed n o u is out child b =
      ap (λ g. hollowed g h) (document-unlink u.trees u.next is.forest o n child)
      ∙ (hollowed-without (tree_of u.trees 0) h n (ap (λ g. count_of g n) b ∙ out.0) ∙ b)

  pub base_inserted : (p : ℕ) (b : Option ℕ) (n : ℕ) (u : State) → IsValid u → Takes p → CanPut u.trees p b n → Base u → Base (applied (Insert p b n) u)
  unfolding applied with_change changed trees_after
  base_inserted p before n u is out can b =
      ap (λ g. hollowed g h) (document-link u.trees u.next is.forest p before n can)
      ∙ (hollowed-put_under (tree_of u.trees 0) h p before (tree_of u.trees n) (λ _. ap (λ g. count_of g p) b ∙ out) ∙ b)

-- ---- the steps of a tail

-- the root of a tree that holds something is there
pub root_there : (f : Forest Content) (n l : ℕ) → IsWithin f n l → 0 < count_of f n
root_there f n l held = elim (none_or_some (count_of f n)) [
  | inr some ↦ some
  | inl none ↦ absurd (let empty = tree_of_absent f n none in let held' = rw empty at held in omega (arith, held'))
]

module _ (s : State) (is : IsValid s) (confined : IsConfined s) (from : Point) (end target : ℕ) (may : may_extract s from end target ≡ true) where
  tests : Extracts s from end target
  tests = extract_tests s from end target may

  pub tail_host : (h : ℕ) × (s.host ≡ Some h) × (editing_host s.trees end ≡ Some h)
  tail_host = host_of s end tests.end_editable

  module _ (h : ℕ) (host : s.host ≡ Some h) (hosted : editing_host s.trees end ≡ Some h) where
    base : Forest Content
    base = hollowed (tree_of s.trees 0) h

    new_out : (j : ℕ) → s.next ≤ j → count_of (hollowed (tree_of s.trees 0) h) j ≡ 0
    new_out j high = elim (none_or_some (count_of (hollowed (tree_of s.trees 0) h) j)) [
      | inl none ↦ none
      | inr some ↦ absurd (
          let low = is.forest.below j (omega (arith, some, hollowed_le (tree_of s.trees 0) h j, total-without (λ m _. cond (eqb m j) 1 0) s.trees 0)) in
          omega (arith, low, high))
    ]

    target_out : count_of (hollowed (tree_of s.trees 0) h) target ≡ 0
    unfolding is_made outside
    target_out = elim (none_or_some (count_of (hollowed (tree_of s.trees 0) h) target)) [
      | inl none ↦ none
      | inr some ↦ absurd (
          let same : count_of (outside s) target ≡ count_of (hollowed (tree_of s.trees 0) h) target = ap (λ o. count_of (outside_by o s.trees) target) host in
          let early = confined.before target (omega (arith, some, same)) in
          omega (arith, early, leb-true s.start target tests.made))
    ]

    pub tail_out : AllOf (Fits IsCopy (Moves h (hollowed (tree_of s.trees 0) h)) (Takes h (hollowed (tree_of s.trees 0) h))) (tail_of s from end target)
    unfolding tail_of
    tail_out =
        let f = s.trees in
        let once = is.forest.distinct in
        let top = (editable_below f once end h hosted).0 in
        let known = is.forest.below h (root_there f h end top) in
        tail_fits IsCopy (Moves h (hollowed (tree_of f 0) h)) (Takes h (hollowed (tree_of f 0) h)) f once s.next from (λ c. IsWithin f h c)
        (λ c k path child _. (child_below f once h c k child path).0)
        (λ c x path child. (let k = child_below f once h c x child path in (below_left_out f s.next is.forest h x k.0 k.1, k.1)))
        (λ k _. is_copy f is.forest.nodes k)
        (λ j high. (new_out j high, λ e. omega (arith, known, high, e)))
        (λ j high. new_out j high)
        (document_size f) end target s.next top target_out (omega arith)

    base_after : Base h (hollowed (tree_of s.trees 0) h) (stepped_all (tail_of s from end target) s)
    base_after =
        fit_steps IsCopy (Moves h (hollowed (tree_of s.trees 0) h)) (Takes h (hollowed (tree_of s.trees 0) h)) (λ c k. k) (Base h (hollowed (tree_of s.trees 0) h))
        (λ c u is' _ b. base_made h (hollowed (tree_of s.trees 0) h) c u is' b)
        (λ n o u is' out child b. base_removed h (hollowed (tree_of s.trees 0) h) n o u is' out child b)
        (λ p before n u is' out _ can b. base_inserted h (hollowed (tree_of s.trees 0) h) p before n u is' out can b)
        (tail_of s from end target) s tail_out (tail_possible s is from end target may) is refl

    pub outside_after : outside (stepped_all (tail_of s from end target) s) ≡ outside s
    unfolding outside
    outside_after =
        let u = stepped_all (tail_of s from end target) s in
        ap (λ o. outside_by o u.trees) ((command_steps (tail_of s from end target) s).host ∙ host)
        ∙ (base_after ∙ ap (λ o. outside_by o s.trees) (sym host))

pub outside-extracted : (from : Point) (end target : ℕ) (s : State) → IsValid s → IsConfined s → outside (extracted from end target s) ≡ outside s
outside-extracted from end target s is confined =
    either_extracted (λ u. outside u ≡ outside s) from end target s
    (λ may. (let k = tail_host s is confined from end target may in outside_after s is confined from end target may k.0 k.1 k.2))
    refl
