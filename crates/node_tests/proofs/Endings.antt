-- A walk from place to place in the document ends by itself, before it takes as many turns as it may.
use Rattle.std.proofs.Common.{◌≡◌, ◌≢◌, ℕ, zero, suc, ◌⊎◌, ◌+◌, ◌*◌, ◌-◌, ◌<◌, ◌≤◌, Bool, true, false, cond, Option, Some, None, refl, sym, ap, subst, ◌∙◌, inl, inr, arith}
use Rattle.std.proofs.lemmas.Bool.Decides.{eqb_tells}
use Rattle.node_styles.specs.DomModel.declared.Content.{Content}
use Rattle.node_styles.specs.DomModel.Forest.{Forest, count_of, IsWithin, parent_of, children_of}
use Rattle.node_styles.specs.DomModel.Forest.Forest.{Tree}
use Rattle.node_styles.specs.DomModel.Places.{index_of}
use Rattle.node_styles.specs.NodeArena.Reads.{IsValid}
use Rattle.node_styles.specs.DomModel.TreeOrder.{total_after}
use Rattle.node_styles.proofs.DomModel.Links.{parent_count}
use Rattle.node_styles.proofs.DomModel.Walks.{document_first, total_after_document, total_from_whole}
use Rattle.node_styles.proofs.DomModel.Within.{within_child, within_step, depth_of-root}
use Rattle.node_styles.specs.NodeArena.declared.NodeRef.{NodeRef}
use Rattle.node_tests.specs.BlockPoints.{edge, is_block_boundary}
use Rattle.node_styles.specs.TurnBound.{turn_bound}
use Rattle.node_tests.specs.LineBreaks.{Place, Turn, end_of, past, own_place, out_to, out_of, child_beside, go_past, turn_to, walk, meets_break}
use Rattle.node_tests.specs.LineBreaks.Turn.{Answer, GoOn}
use Rattle.node_tests.specs.declared.sides.Side.{Side}
use Rattle.node_tests.specs.declared.sides.Side.TheVariants.{Before, After}
use Rattle.node_tests.specs.Sides.{other, sibling, near_child}
use Rattle.node_tests.specs.Visible.{is_visible}
use Rattle.node_tests.proofs.Toward.{parent_among}
use Rattle.node_tests.proofs.Inside.{nodes}
use Rattle.node_tests.proofs.Pieces.{has}
use Rattle.node_tests.proofs.Tags.{from_start, past_end, start_low, own_end, left_past, left_in, past_less, in_less, out_less}
use Rattle.node_tests.proofs.Turning.{before_end, after_end, before_index, after_index, first_get, get_times}
use Rattle.node_tests.proofs.Turns.{walk_answers, walk_goes}

-- ---- walks

turn_is : (t : Turn) → ((b : Bool) × (t ≡ Answer b)) ⊎ ((next : Place) × (t ≡ GoOn next))
turn_is (Answer b) = inl (b, refl)
turn_is (GoOn next) = inr (next, refl)

-- where each turn lowers a number, it doesn't matter how many turns more than that number are allowed
walk_same : (turn : Place → Turn) (Fits : Place → Type 0) (rank : Place → ℕ) → ((at next : Place) → Fits at → turn at ≡ GoOn next → Fits next × (rank next < rank at)) → (n m : ℕ) (at : Place) → Fits at → rank at < n → rank at < m → walk turn n at ≡ walk turn m at
walk_same turn Fits rank lower zero m at fits a b = absurd (omega (arith, a))
walk_same turn Fits rank lower (suc n) zero at fits a b = absurd (omega (arith, b))
walk_same turn Fits rank lower (suc n) (suc m) at fits a b =
    elim (turn_is (turn at)) [
      | inl (x, e) ↦ walk_answers turn n at x e ∙ sym (walk_answers turn m at x e)
      | inr (next, e) ↦ (
          let low = lower at next fits e in
          walk_goes turn n at next e
          ∙ walk_same turn Fits rank lower n m next low.0 (omega (arith, a, low.1)) (omega (arith, b, low.1))
          ∙ sym (walk_goes turn m at next e))
    ]

no_answer : (b : Bool) (next : Place) → Answer b ≡ GoOn next → ⊥
no_answer b next e = let t = e in cc

same_place : (at next : Place) → GoOn at ≡ GoOn next → at ≡ next
same_place at next e = let t = e in cc

-- a turn that goes on is at no boundary, and goes past no visible child
goes_on : (b : Bool) (t : Turn) (next : Place) → cond b (Answer true) t ≡ GoOn next → t ≡ GoOn next
goes_on true t next e = absurd (no_answer true next e)
goes_on false t next e = e

goes_past : (side : Side) (f : Forest Content) (k : ℕ) (next : Place) → past side f k ≡ GoOn next → next ≡ end_of (other side) f k
goes_past side f k next e = by_seen (is_visible f k) e
  where
    by_seen : (b : Bool) → cond b (Answer false) (GoOn (end_of (other side) f k)) ≡ GoOn next → next ≡ end_of (other side) f k
    by_seen true e = absurd (no_answer false next e)
    by_seen false e = sym (same_place (end_of (other side) f k) next e)

goes_out : (side : Side) (f : Forest Content) (l : ℕ) (next : Place) → out_of side f l ≡ GoOn next → (p : ℕ) × (parent_of f l ≡ Some p) × (next ≡ record { node = p; offset = own_place side (index_of f l) })
goes_out side f l next e = by_parent (parent_of f l) e
  where
    by_parent : (o : Option ℕ) → out_to side f l o ≡ GoOn next → (p : ℕ) × (o ≡ Some p) × (next ≡ record { node = p; offset = own_place side (index_of f l) })
    by_parent None e = absurd (no_answer true next e)
    by_parent (Some p) e = (p, refl, sym (same_place (record { node = p; offset = own_place side (index_of f l) }) next e))

module _ {holds : NodeRef → Type 0} {f : Forest Content} {upper : ℕ} (law : IsValid holds f upper) where
  child_of : (side : Side) (l o k : ℕ) → child_beside side f l o ≡ Some k → parent_of f k ≡ Some l
  child_of Before l zero k e = absurd (let t = e in cc)
  child_of Before l (suc o) k e = parent_among f law.distinct l k (get_times (children_of f l) o k e)
  child_of After l o k e = parent_among f law.distinct l k (get_times (children_of f l) o k e)

  -- the children beside the ends of a node, and beside its own places
  outmost : (side : Side) (l : ℕ) → 0 < count_of f l → child_beside side f l (edge side f l) ≡ None
  outmost Before l here = refl
  outmost After l here = after_end law l here

  inmost : (side : Side) (l : ℕ) → 0 < count_of f l → child_beside side f l (edge (other side) f l) ≡ near_child side f l
  inmost Before l here = before_end law l here
  inmost After l here = first_get (children_of f l)

  own_beside : (side : Side) (l p : ℕ) → parent_of f l ≡ Some p → child_beside side f p (own_place side (index_of f l)) ≡ sibling side f l
  own_beside Before l p child = before_index law l p child
  own_beside After l p child = after_index law l p child

  doc_tree : (c : Content) × (ks : Forest Content) × (rest : Forest Content) × (f ≡ Tree 0 c ks rest)
  doc_tree = document_first f law.distinct law.rising law.document law.root

  -- what comes after the document comes after each node of it
  behind_it : (c : Content) (ks rest : Forest Content) (l : ℕ) → IsWithin (Tree 0 c ks rest) 0 l → total_after (λ _ _. 1) (Tree 0 c ks rest) 0 ≤ total_after (λ _ _. 1) (Tree 0 c ks rest) l
  behind_it c ks rest l inside =
      elim (eqb_tells 0 l) [
        | inl (t, _) ↦ rw t (omega arith)
        | inr (t, _) ↦ (
            let inside' = rw t at inside in
            let low : 0 < count_of ks l = omega (arith, inside') in
            rw (t, has (count_of ks l) low) (omega arith))
      ]

  end_high : (l : ℕ) → IsWithin f 0 l → past_end f 0 ≤ past_end f l
  end_high l inside =
      let d = doc_tree in
      let behind = subst (λ g. IsWithin g 0 l → total_after (λ _ _. 1) g 0 ≤ total_after (λ _ _. 1) g l) (sym d.3) (behind_it d.0 d.1 d.2 l) inside in
      omega (arith, behind, depth_of-root f 0 law.distinct law.document law.root)

  not_document : (l p : ℕ) → parent_of f l ≡ Some p → 0 ≢ l
  not_document l p child is = let t : None ≡ Some p = sym law.root ∙ ap (parent_of f) is ∙ child in cc

  -- what a walk in the document has left, but for what comes after the document
  abbrev outside : Side → ℕ
  outside Before = 0
  outside After = past_end f 0

  abbrev rank : Side → Place → ℕ
  rank side at = left_in side f at.node (child_beside side f at.node at.offset) - outside side

  some_left : (side : Side) (l : ℕ) → IsWithin f 0 l → outside side < left_past side f l
  some_left Before l inside = omega (arith, start_low f law.distinct l)
  some_left After l inside = omega (arith, end_high l inside)

  lower : (side : Side) (at next : Place) → IsWithin f 0 at.node → turn_to side f at ≡ GoOn next → IsWithin f 0 next.node × (rank side next < rank side at)
  unfolding turn_to
  lower side at next inside e =
      by_child (child_beside side f at.node at.offset) refl (goes_on (is_block_boundary f at.node at.offset) (go_past side f at.node (child_beside side f at.node at.offset)) next e)
    where
      by_child : (o : Option ℕ) → child_beside side f at.node at.offset ≡ o → go_past side f at.node o ≡ GoOn next → IsWithin f 0 next.node × (rank side next < left_in side f at.node o - outside side)
      by_child None is e =
          let (p, child, same) = goes_out side f at.node next e in
          rw same (
            within_step f 0 law.distinct law.document at.node p (not_document at.node p child) child inside,
            rw (own_beside side at.node p child) (omega (arith, out_less law side at.node p child, some_left side at.node inside)),
          )
      by_child (Some k) is e =
          let child = child_of side at.node at.offset k is in
          let here = (parent_count f k at.node law.distinct child).0 in
          let below = within_child f 0 law.distinct law.document k at.node child inside in
          rw (goes_past side f k next e) (
            below,
            rw (inmost side k here) (omega (arith, in_less law side k here, past_less law side k here, some_left side k below)),
          )

  -- ---- the walks of a node of the document

  module _ (l : ℕ) (here : 0 < count_of f l) (inside : IsWithin f 0 l) where
    sizes : (2 * nodes f < turn_bound f + past_end f 0) × (nodes f ≤ upper)
    sizes =
        let d = doc_tree in
        let whole = total_from_whole f d.0 d.1 d.2 d.3 (λ _ _. 1) in
        let after = total_after_document f d.0 d.1 d.2 d.3 (λ _ _. 1) in
        (omega (arith, whole, after), law.few)

    low : (side : Side) → (left_past side f l - outside side < 2 * upper + 2) × (left_past side f l - outside side < turn_bound f)
    low side =
        let own = own_end f law.distinct l here in
        let few = start_low f law.distinct l in
        let high = end_high l inside in
        by_side side own few high
      where
        by_side : (side : Side) → past_end f l + 1 < from_start f l → from_start f l ≤ 2 * nodes f → past_end f 0 ≤ past_end f l → (left_past side f l - outside side < 2 * upper + 2) × (left_past side f l - outside side < turn_bound f)
        by_side Before own few high = (omega (arith, sizes.1), omega (arith, own, high, sizes.0))
        by_side After own few high = (omega (arith, own, few, sizes.1), omega (arith, own, few, sizes.0))

    pub free : (side : Side) (n : ℕ) → n ≡ 2 * upper + 2 → walk (turn_to side f) n (end_of side f l) ≡ meets_break side f l
    unfolding meets_break
    free side n is =
        walk_same (turn_to side f) (λ at. IsWithin f 0 at.node) (rank side) (lower side) n (turn_bound f) (end_of side f l) inside
        (rw (outmost side l here, is) (low side).0)
        (rw (outmost side l here) (low side).1)
