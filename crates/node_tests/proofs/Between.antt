-- Where a range effectively contains the first child of a node and the last, it does so with all between them.
use Rattle.std.proofs.Common.{◌≡◌, ℕ, zero, suc, ◌+◌, ◌<◌, ◌≤◌, ◌⊎◌, inl, inr, Bool, true, false, ◌&&◌, List, [], ◌∷◌, Option, Some, None, refl, sym, ap, ◌∙◌, subst, arith}
use Rattle.std.proofs.lemmas.Bool.{cases_lt}
use Rattle.std.proofs.lemmas.Bool.Decides.{eqb_tells}
use Rattle.node_styles.specs.DomModel.declared.Content.{Content}
use Rattle.node_styles.specs.DomModel.Forest.{Forest, IsWithin, count_of, parent_of, children_of, depth_of, first_in, first_of, last_in, last_of, last_or, next_of, tree_of}
use Rattle.node_styles.specs.DomModel.Places.{index_of, onward}
use Rattle.node_styles.proofs.DomModel.Links.{parent_count}
use Rattle.node_styles.proofs.DomModel.Neighbours.{parent_of-first, parent_of-last, parent_of-next}
use Rattle.node_styles.proofs.DomModel.Within.{within_parent, depth_of-parent}
use Rattle.point_order.specs.LiveRange.declared.places.Point.{Point}
use Rattle.node_styles.specs.NodeArena.declared.NodeRef.{NodeRef}
use Rattle.node_styles.specs.NodeArena.Reads.{IsValid}
use Rattle.point_order.specs.PointOrder.{is_before}
use Rattle.node_tests.specs.Listing.{siblings, LiesAfter, LiesBefore}
use Rattle.node_tests.specs.Ranges.{all_effective}
use Rattle.node_tests.proofs.Effective.{next_effective}
use Rattle.node_tests.proofs.Elsewhere.{root_above, end_inside, not_effective}
use Rattle.node_tests.proofs.Tags.{last_alone}
use Rattle.node_tests.proofs.Gathered.{effective_is, every_effective, off_after, off_before}
use Rattle.node_tests.proofs.Inside.{nodes, fewer_kids, fewer_onward, some_node}
use Rattle.node_tests.proofs.Propping.{and_true}
use Rattle.node_tests.proofs.Reaching.{after_it, before_it, same_index, side}
use Rattle.node_tests.proofs.Skipping.{and_none, child_after, child_before, sibling_after, sibling_before}
use Rattle.node_tests.proofs.Turning.{index_first, index_under, next_index, no_next}

some_or : (x : ℕ) (xs : List ℕ) → last_or (Some x) xs ≡ None → ⊥
some_or x [] e = let t : Some x ≡ None = e in cc
some_or x (y ∷ xs) e = some_or y xs e

module _ {holds : NodeRef → Type 0} {f : Forest Content} {upper : ℕ} (law : IsValid holds f upper) where
  -- a tree without a point lies on one side of it
  aside : (n : ℕ) (p : Point) (root x : ℕ) → depth_of f x < n → 0 < count_of f root → IsWithin f root x → IsWithin f root p.label → (IsWithin f x p.label → ⊥) → LiesAfter f p x ⊎ LiesBefore f p x
  aside zero p root x low here under inside out = absurd (omega (arith, low))
  aside (suc n) p root x low here under inside out =
      elim (eqb_tells root x) [
        | inl (_, same) ↦ absurd (out (subst (λ y. IsWithin f y p.label) same inside))
        | inr (_, off) ↦ (
            let up = within_parent f root law.distinct here x off under in
            let less = depth_of-parent f x up.0 law.distinct up.1 in
            by_count up.0 up.1 (count_of (tree_of f up.0) p.label) refl (aside n p root up.0 (omega (arith, low, less)) here up.2 inside))
      ]
    where
      by_count : (q : ℕ) → parent_of f x ≡ Some q → (m : ℕ) → count_of (tree_of f q) p.label ≡ m → ((IsWithin f q p.label → ⊥) → LiesAfter f p q ⊎ LiesBefore f p q) → LiesAfter f p x ⊎ LiesBefore f p x
      by_count q child zero e above =
          elim (above (λ w. omega (arith, e, w))) [
            | inl after ↦ inl (child_after f law.distinct p q x child after)
            | inr before ↦ inr (child_before f law.distinct p q x child before)
          ]
      by_count q child (suc m) e above =
          elim (side law p q x (parent_count f x q law.distinct child).1 child (omega (arith, e))) [
            | inl after ↦ inl (after_it f law.distinct p q x child after)
            | inr (inl before) ↦ inr (before_it f law.distinct p q x child before)
            | inr (inr within) ↦ absurd (out within)
          ]

  module _ (start end : Point) (ordered : is_before f start end ≡ true) (start_here : 0 < count_of f start.label) (end_here : 0 < count_of f end.label) (p : ℕ) where
    abbrev effect : ℕ → Bool
    effect k = all_effective f start end (tree_of f k)

    into_parent : (y k : ℕ) → 0 < count_of f y → parent_of f y ≡ None → parent_of f k ≡ Some p → IsWithin f y k → IsWithin f y p
    into_parent y k there top child inside =
        elim (eqb_tells y k) [
          | inl (_, same) ↦ absurd (let t : None ≡ Some p = sym top ∙ ap (parent_of f) same ∙ child in cc)
          | inr (_, off) ↦ (
              let up = within_parent f y law.distinct there k off inside in
              let t : Some up.0 ≡ Some p = sym up.1 ∙ child in
              let same : up.0 ≡ p = cc in
              subst (λ q. IsWithin f y q) same up.2)
        ]

    -- a node in effect has both ends in its tree's root
    abbrev Rooted : Type 0
    Rooted = (y : ℕ) × (0 < count_of f y) × IsWithin f y p × IsWithin f y start.label × IsWithin f y end.label

    rooted : (k : ℕ) → parent_of f k ≡ Some p → effect k ≡ true → Rooted
    rooted k child on =
        let r = root_above f law.distinct (suc (depth_of f start.label)) start.label (omega arith) start_here in
        by_count r.0 r.1 r.2 r.3 (count_of (tree_of f r.0) k) refl
      where
        by_count : (y : ℕ) → 0 < count_of f y → parent_of f y ≡ None → IsWithin f y start.label → (n : ℕ) → count_of (tree_of f y) k ≡ n → Rooted
        by_count y there top from zero e =
            let here = (parent_count f k p law.distinct child).0 in
            let out = not_effective f law.distinct y there top start end from end_here k here (λ w. omega (arith, e, w)) in
            absurd (let t : true ≡ false = sym on ∙ sym (effective_is law p start end ordered k) ∙ out in cc)
        by_count y there top from (suc n) e =
            (y, there, into_parent y k there top child (omega (arith, e)), from, end_inside f law.distinct y there top start end from end_here ordered)

    module _ (first k : ℕ) (child : parent_of f first ≡ Some p) (later : parent_of f k ≡ Some p) (low : index_of f first < index_of f k) (on : effect first ≡ true) where
      not_before : LiesBefore f start first → LiesAfter f start k
      not_before lies = absurd (let t : true ≡ false = sym on ∙ off_before law p start end ordered first child lies in cc)

      after_first : LiesAfter f start k
      after_first = let r = rooted first child on in by_count r.0 r.1 r.2 r.3 (count_of (tree_of f p) start.label) refl
        where
          by_count : (y : ℕ) → 0 < count_of f y → IsWithin f y p → IsWithin f y start.label → (n : ℕ) → count_of (tree_of f p) start.label ≡ n → LiesAfter f start k
          by_count y here under inside zero e =
              elim (aside (suc (depth_of f p)) start y p (omega arith) here under inside (λ w. omega (arith, e, w))) [
                | inl after ↦ child_after f law.distinct start p k later after
                | inr before ↦ not_before (child_before f law.distinct start p first child before)
              ]
          by_count y here under inside (suc n) e =
              elim (side law start p first (parent_count f first p law.distinct child).1 child (omega (arith, e))) [
                | inl (inl (is, high)) ↦ after_it f law.distinct start p k later (inl (is, omega (arith, low, high)))
                | inl (inr (m, other, within, less)) ↦ after_it f law.distinct start p k later (inr (m, other, within, omega (arith, low, less)))
                | inr (inl before) ↦ not_before (before_it f law.distinct start p first child before)
                | inr (inr within) ↦ sibling_after f law.distinct p k first start later child low within
              ]

    module _ (last k : ℕ) (child : parent_of f last ≡ Some p) (earlier : parent_of f k ≡ Some p) (low : index_of f k < index_of f last) (on : effect last ≡ true) where
      not_after : LiesAfter f end last → LiesBefore f end k
      not_after lies = absurd (let t : true ≡ false = sym on ∙ off_after law p start end ordered last child lies in cc)

      before_last : LiesBefore f end k
      before_last = let r = rooted last child on in by_count r.0 r.1 r.2 r.4 (count_of (tree_of f p) end.label) refl
        where
          by_count : (y : ℕ) → 0 < count_of f y → IsWithin f y p → IsWithin f y end.label → (n : ℕ) → count_of (tree_of f p) end.label ≡ n → LiesBefore f end k
          by_count y here under inside zero e =
              elim (aside (suc (depth_of f p)) end y p (omega arith) here under inside (λ w. omega (arith, e, w))) [
                | inl after ↦ not_after (child_after f law.distinct end p last child after)
                | inr before ↦ child_before f law.distinct end p k earlier before
              ]
          by_count y here under inside (suc n) e =
              elim (side law end p last (parent_count f last p law.distinct child).1 child (omega (arith, e))) [
                | inl after ↦ not_after (after_it f law.distinct end p last child after)
                | inr (inl (inl (is, high))) ↦ before_it f law.distinct end p k earlier (inl (is, omega (arith, low, high)))
                | inr (inl (inr (m, other, within, less))) ↦ before_it f law.distinct end p k earlier (inr (m, other, within, omega (arith, low, less)))
                | inr (inr within) ↦ sibling_before f law.distinct p k last end earlier child low within
              ]

    module _ (first last : ℕ) (is_first : first_of f p ≡ Some first) (is_last : last_of f p ≡ Some last) where
      under_first : parent_of f first ≡ Some p
      under_first = parent_of-first f law.distinct p first is_first

      under_last : parent_of f last ≡ Some p
      under_last = parent_of-last f law.distinct p last is_last

      last_whole : (k : ℕ) → parent_of f k ≡ Some p → index_of f last ≤ index_of f k → k ≡ last
      last_whole k child high =
          let whole = no_next law last p under_last (last_alone law p last is_last) in
          same_index law p k last child under_last (omega (arith, high, whole, index_under law k p child))

      between : effect first ≡ true → effect last ≡ true → (k : ℕ) → parent_of f k ≡ Some p → effect k ≡ true
      between on on' k child =
          elim (cases_lt (index_of f first) (index_of f k)) [
            | inl low ↦ elim (cases_lt (index_of f k) (index_of f last)) [
              | inl low' ↦ sym (every_effective law start end ordered k (parent_count f k p law.distinct child).0 (after_first first k under_first child low on) (before_last last k under_last child low' on'))
              | inr high ↦ ap effect (last_whole k child high) ∙ on'
            ]
            | inr high ↦ ap effect (same_index law p k first child under_first (omega (arith, high, index_first law first p under_first is_first))) ∙ on
          ]

      with_last : effect first ≡ true → (k : ℕ) → parent_of f k ≡ Some p → (b : Bool) → effect last ≡ b → (effect k && b) ≡ b
      with_last on k child true e = ap (λ v. v && true) (between on e k child)
      with_last on k child false e = and_none (effect k)

      onward_effective : effect first ≡ true → (n k : ℕ) → nodes (onward f k) < n → parent_of f k ≡ Some p → all_effective f start end (onward f k) ≡ effect last
      onward_effective on zero k low child = absurd (omega (arith, low))
      onward_effective on (suc n) k low child =
          next_effective f start end law.distinct k p child (next_of f k) refl (effect k) refl ∙ by_next (next_of f k) refl (λ j e.
          onward_effective on n j (omega (arith, low, fewer_onward f law.distinct k p child, some_node f law.distinct k p child, ap (λ o. nodes (siblings f o)) e)) (parent_of-next f law.distinct k j p child e))
        where
          by_next : (o : Option ℕ) → next_of f k ≡ o → ((j : ℕ) → next_of f k ≡ Some j → all_effective f start end (onward f j) ≡ effect last) → (effect k && all_effective f start end (siblings f o)) ≡ effect last
          by_next None e rest =
              let whole = no_next law k p child e in
              and_true (effect k) ∙ ap effect (last_whole k child (omega (arith, whole, index_under law last p under_last)))
          by_next (Some j) e rest = ap (λ v. effect k && v) (rest j e) ∙ with_last on k child (effect last) refl

      pub first_and_last : effect first ≡ true → all_effective f start end (siblings f (Some first)) ≡ effect last
      first_and_last on = onward_effective on (suc (nodes (onward f first))) first (omega arith) under_first

      lower : (n j k : ℕ) → index_of f k ≡ n + index_of f j → parent_of f j ≡ Some p → parent_of f k ≡ Some p → nodes (tree_of f k) ≤ nodes (onward f j)
      lower zero j k e cj ck =
          let same : k ≡ j = same_index law p k j ck cj (omega (arith, e)) in
          omega (arith, ap (λ i. nodes (tree_of f i)) same, fewer_onward f law.distinct j p cj)
      lower (suc n) j k e cj ck = by_next (next_of f j) refl (λ i t.
          let ci = parent_of-next f law.distinct j i p cj t in
          lower n i k (omega (arith, e, next_index law j p cj i ci t)) ci ck)
        where
          by_next : (o : Option ℕ) → next_of f j ≡ o → ((i : ℕ) → next_of f j ≡ Some i → nodes (tree_of f k) ≤ nodes (onward f i)) → nodes (tree_of f k) ≤ nodes (onward f j)
          by_next None t on = absurd (let whole = no_next law j p cj t in omega (arith, whole, e, index_under law k p ck))
          by_next (Some i) t on = omega (arith, on i t, fewer_onward f law.distinct j p cj, ap (λ o. nodes (siblings f o)) t)

      pub last_smaller : 0 < count_of f p → nodes (tree_of f last) < nodes (tree_of f p)
      last_smaller here =
          let less = lower (index_of f last) first last (omega (arith, index_first law first p under_first is_first)) under_first under_last in
          omega (arith, less, fewer_kids f law.distinct p here, ap (λ o. nodes (siblings f o)) is_first)

    pub first_smaller : (first : ℕ) → first_of f p ≡ Some first → 0 < count_of f p → nodes (tree_of f first) < nodes (tree_of f p)
    first_smaller first is_first here =
        omega (arith, fewer_onward f law.distinct first p (parent_of-first f law.distinct p first is_first), fewer_kids f law.distinct p here, ap (λ o. nodes (siblings f o)) is_first)

    -- a first child comes with a last one
    pub some_last : (first : ℕ) → first_of f p ≡ Some first → last_of f p ≡ None → ⊥
    some_last first e none = by_children (children_of f p) e none
      where
        by_children : (xs : List ℕ) → first_in xs ≡ Some first → last_in xs ≡ None → ⊥
        by_children [] e none = let t : None ≡ Some first = e in cc
        by_children (x ∷ xs) e none = some_or x xs none
