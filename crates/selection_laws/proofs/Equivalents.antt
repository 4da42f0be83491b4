-- The last point that is equivalent to one in the host and the first one that is equivalent to another in it may lie outside an inline
-- host. Then the one doesn't come before the other: it lies past the host, or the other one lies ahead of it.
use Rattle.std.proofs.Common.{◌≡◌, ◌⊎◌, ℕ, zero, suc, ◌+◌, ◌<◌, true, false, if◌then◌else◌, Option, Some, None, IfSome, refl, sym, ap, subst, ◌∙◌, inl, inr, arith, true≢false}
use Rattle.std.specs.Prelude.{◌==◌}
use Rattle.std.specs.Option.{option_map}
use Rattle.std.proofs.lemmas.Bool.{and_parts}
use Rattle.std.proofs.lemmas.Bool.Decides.{eqb_tells}
use Rattle.edit_model.specs.DomModel.declared.Content.{Content}
use Rattle.edit_model.specs.DomModel.Contents.{length_of}
use Rattle.edit_model.specs.DomModel.Forest.{Forest, count_of, IsDistinct, IsWithin, parent_of, depth_of}
use Rattle.edit_model.specs.DomModel.Places.{index_of}
use Rattle.edit_model.proofs.DomModel.Links.{parent_count}
use Rattle.edit_model.proofs.DomModel.Within.{within_self, within_child, within_parent, within_step, within_up, depth_of-parent}
use Rattle.edit_model.specs.LiveRange.declared.places.Point.{Point}
use Rattle.edit_model.specs.PointOrder.PointOrder.{is_before}
use Rattle.inline_value.specs.NodeStyles.Blocks.{is_block}
use Rattle.inline_value.specs.NodeStyles.TurnBound.{turn_bound}
use Rattle.inline_value.specs.NodeTests.BlockPoints.{child_before, child_at}
use Rattle.inline_value.specs.NodeTests.Listing.{Follows, Precedes}
use Rattle.inline_value.proofs.NodeTests.Reaching.{after_it, before_it, order}
use Rattle.edit_model.specs.Confined.{is_there}
use Rattle.edit_model.proofs.Trees.{within_trans}
use Rattle.delete_core.specs.Equivalent.{if_enterable, into_after, into_before, out_after, out_before, next_point, previous_point, last_equivalent, first_equivalent}
use Rattle.delete_core.specs.Places.{at, start_in, end_in, before_node, after_node, comes_before}
use Rattle.selection_laws.proofs.Kids.{parent_at, index_at}
use Rattle.selection_laws.proofs.Points.{walk_keeps, some_if, some_mapped}

-- past the host, at a node above it or beside one that it is or stands in; and ahead of it
pub record IsPast (f : Forest Content) (h : ℕ) (p : Point) : Type 0 where
  pub top : ℕ
  pub kid : ℕ
  pub child : parent_of f kid ≡ Some top
  pub holds : IsWithin f kid h
  pub side : Precedes f p top kid

pub record IsAhead (f : Forest Content) (h : ℕ) (p : Point) : Type 0 where
  pub top : ℕ
  pub kid : ℕ
  pub child : parent_of f kid ≡ Some top
  pub holds : IsWithin f kid h
  pub side : Follows f p top kid

module _ (f : Forest Content) (once : IsDistinct f) where
  there : (k p : ℕ) → parent_of f k ≡ Some p → 0 < count_of f k
  there k p child = (parent_count f k p once child).0

  one_parent : (k p q : ℕ) → parent_of f k ≡ Some p → parent_of f k ≡ Some q → q ≡ p
  one_parent k p q e e' = let t : Some q ≡ Some p = sym e' ∙ e in cc

  -- of two nodes that both hold a third one, one holds the other
  nested_by : (n a b x : ℕ) → depth_of f x < n → 0 < count_of f a → 0 < count_of f b → IsWithin f a x → IsWithin f b x → IsWithin f a b ⊎ IsWithin f b a
  nested_by zero a b x low a_here b_here in_a in_b = absurd (omega (arith, low))
  nested_by (suc n) a b x low a_here b_here in_a in_b = elim (eqb_tells a x) [
    | inl (_, e) ↦ inr (subst (λ y. IsWithin f b y) (sym e) in_b)
    | inr (_, off) ↦ elim (eqb_tells b x) [
      | inl (_, e) ↦ inl (subst (λ y. IsWithin f a y) (sym e) in_a)
      | inr (_, other) ↦ (
          let up = within_parent f a once a_here x off in_a in
          let deep = depth_of-parent f x up.0 once up.1 in
          nested_by n a b up.0 (omega (arith, low, deep)) a_here b_here up.2 (within_step f b once b_here x up.0 other up.1 in_b))
    ]
  ]

module _ (f : Forest Content) (once : IsDistinct f) (h : ℕ) (here : 0 < count_of f h) where
  -- ---- steps onward

  abbrev Onward : Point → Type 0
  Onward p = IsWithin f h p.label ⊎ IsPast f h p

  past_up : (p : Point) (q : ℕ) → IsPast f h p → parent_of f p.label ≡ Some q → IsPast f h (at q (index_of f p.label + 1))
  past_up p q past up = elim past.side [
    | inl (is, low) ↦ (
        let above : parent_of f past.top ≡ Some q = subst (λ l. parent_of f l ≡ Some q) is up in
        record {
          top = q;
          kid = past.top;
          child = above;
          holds = within_up f once past.kid past.top h past.child past.holds;
          side = inl (refl, (let same = ap (index_of f) is in omega (arith, same)));
        })
    | inr (m, other, inside, low) ↦ elim (eqb_tells m p.label) [
      | inl (_, e) ↦ (
          let same : q ≡ past.top = one_parent f once m past.top q other (subst (λ l. parent_of f l ≡ Some q) (sym e) up) in
          record {
            top = past.top;
            kid = past.kid;
            child = past.child;
            holds = past.holds;
            side = inl (same, (let same' = ap (index_of f) e in omega (arith, low, same')));
          })
      | inr (_, off) ↦ record {
        top = past.top;
        kid = past.kid;
        child = past.child;
        holds = past.holds;
        side = inr (m, other, within_step f m once (there f once m past.top other) p.label q off up inside, low);
      }
    ]
  ]

  past_down : (p : Point) (c : ℕ) → IsPast f h p → parent_of f c ≡ Some p.label → index_of f c ≡ p.offset → IsPast f h (start_in c)
  past_down p c past child index = record {
    top = past.top;
    kid = past.kid;
    child = past.child;
    holds = past.holds;
    side = elim past.side [
      | inl (is, low) ↦ inr (c, child ∙ ap Some is, within_self f c once (there f once c p.label child), omega (arith, low, index))
      | inr (m, other, inside, low) ↦ inr (m, other, within_child f m once (there f once m past.top other) c p.label child inside, low)
    ];
  }

  out_onward : (p : Point) → Onward p → IfSome (after_node f p.label) Onward
  unfolding after_node
  out_onward p stands = by_parent (parent_of f p.label) refl
    where
      by_parent : (o : Option ℕ) → parent_of f p.label ≡ o → IfSome (option_map (λ q. at q (index_of f p.label + 1)) o) Onward
      by_parent None e = tt
      by_parent (Some q) e = elim stands [
        | inr past ↦ inr (past_up p q past e)
        | inl inside ↦ elim (eqb_tells h p.label) [
          | inr (_, off) ↦ inl (within_step f h once here p.label q off e inside)
          | inl (_, same) ↦ inr (record {
            top = q;
            kid = h;
            child = subst (λ l. parent_of f l ≡ Some q) (sym same) e;
            holds = within_self f h once here;
            side = inl (refl, (let same' = ap (index_of f) same in omega (arith, same')));
          })
        ]
      ]

  into_onward : (p : Point) → Onward p → (o : Option ℕ) → child_at f p.label p.offset ≡ o → IfSome (option_map start_in (if_enterable f o)) Onward
  into_onward p stands None e = tt
  into_onward p stands (Some k) e =
      some_mapped Onward start_in (if_enterable f (Some k))
      (some_if (λ c. Onward (start_in c)) _ None (Some k) (λ _. tt)
      (λ _. (
      let child = parent_at f once p.label p.offset k e in
      elim stands [
        | inl inside ↦ inl (within_child f h once here k p.label child inside)
        | inr past ↦ inr (past_down p k past child (index_at f once p.label p.offset k e))
      ])))

  next_onward : (p : Point) → Onward p → IfSome (next_point f p) Onward
  unfolding next_point out_after into_after
  next_onward p stands =
      some_if Onward (length_of f p.label == 0) None (if p.offset == length_of f p.label then out_after f p.label else into_after f p) (λ _. tt)
      (λ _. some_if Onward (p.offset == length_of f p.label) (out_after f p.label) (into_after f p)
      (λ _. some_if Onward (is_block f p.label) None (after_node f p.label) (λ _. tt) (λ _. out_onward p stands))
      (λ _. into_onward p stands (child_at f p.label p.offset) refl))

  last_onward : (p : Point) → IsWithin f h p.label → Onward (last_equivalent f p)
  unfolding last_equivalent
  last_onward p inside = walk_keeps Onward (next_point f) (turn_bound f) p next_onward (inl inside)

  -- ---- steps back

  abbrev Back : Point → Type 0
  Back p = IsWithin f h p.label ⊎ IsAhead f h p

  ahead_up : (p : Point) (q : ℕ) → IsAhead f h p → parent_of f p.label ≡ Some q → IsAhead f h (at q (index_of f p.label))
  ahead_up p q ahead up = elim ahead.side [
    | inl (is, low) ↦ (
        let above : parent_of f ahead.top ≡ Some q = subst (λ l. parent_of f l ≡ Some q) is up in
        record {
          top = q;
          kid = ahead.top;
          child = above;
          holds = within_up f once ahead.kid ahead.top h ahead.child ahead.holds;
          side = inl (refl, (let same = ap (index_of f) is in omega (arith, same)));
        })
    | inr (m, other, inside, low) ↦ elim (eqb_tells m p.label) [
      | inl (_, e) ↦ (
          let same : q ≡ ahead.top = one_parent f once m ahead.top q other (subst (λ l. parent_of f l ≡ Some q) (sym e) up) in
          record {
            top = ahead.top;
            kid = ahead.kid;
            child = ahead.child;
            holds = ahead.holds;
            side = inl (same, (let same' = ap (index_of f) e in omega (arith, low, same')));
          })
      | inr (_, off) ↦ record {
        top = ahead.top;
        kid = ahead.kid;
        child = ahead.child;
        holds = ahead.holds;
        side = inr (m, other, within_step f m once (there f once m ahead.top other) p.label q off up inside, low);
      }
    ]
  ]

  ahead_down : (p : Point) (c i : ℕ) → IsAhead f h p → parent_of f c ≡ Some p.label → index_of f c < p.offset → IsAhead f h (at c i)
  ahead_down p c i ahead child index = record {
    top = ahead.top;
    kid = ahead.kid;
    child = ahead.child;
    holds = ahead.holds;
    side = elim ahead.side [
      | inl (is, low) ↦ inr (c, child ∙ ap Some is, within_self f c once (there f once c p.label child), omega (arith, low, index))
      | inr (m, other, inside, low) ↦ inr (m, other, within_child f m once (there f once m ahead.top other) c p.label child inside, low)
    ];
  }

  out_back : (p : Point) → Back p → IfSome (before_node f p.label) Back
  unfolding before_node
  out_back p stands = by_parent (parent_of f p.label) refl
    where
      by_parent : (o : Option ℕ) → parent_of f p.label ≡ o → IfSome (option_map (λ q. at q (index_of f p.label)) o) Back
      by_parent None e = tt
      by_parent (Some q) e = elim stands [
        | inr ahead ↦ inr (ahead_up p q ahead e)
        | inl inside ↦ elim (eqb_tells h p.label) [
          | inr (_, off) ↦ inl (within_step f h once here p.label q off e inside)
          | inl (_, same) ↦ inr (record {
            top = q;
            kid = h;
            child = subst (λ l. parent_of f l ≡ Some q) (sym same) e;
            holds = within_self f h once here;
            side = inl (refl, (let same' = ap (index_of f) same in omega (arith, same')));
          })
        ]
      ]

  into_back : (l i : ℕ) → Back (at l i) → (o : Option ℕ) → child_before f l i ≡ o → IfSome (option_map (end_in f) (if_enterable f o)) Back
  into_back l zero stands None e = tt
  into_back l zero stands (Some k) e = absurd (let t : None ≡ Some k = e in cc)
  into_back l (suc i) stands None e = tt
  into_back l (suc i) stands (Some k) e =
      some_mapped Back (end_in f) (if_enterable f (Some k))
      (some_if (λ c. Back (end_in f c)) _ None (Some k) (λ _. tt)
      (λ _. (
      let child = parent_at f once l i k e in
      let index = index_at f once l i k e in
      elim stands [
        | inl inside ↦ inl (within_child f h once here k l child inside)
        | inr ahead ↦ inr (ahead_down (at l (suc i)) k (length_of f k) ahead child (omega (arith, index)))
      ])))

  previous_back : (p : Point) → Back p → IfSome (previous_point f p) Back
  unfolding previous_point out_before into_before
  previous_back p stands =
      some_if Back (length_of f p.label == 0) None (if p.offset == 0 then out_before f p.label else into_before f p) (λ _. tt)
      (λ _. some_if Back (p.offset == 0) (out_before f p.label) (into_before f p)
      (λ _. some_if Back (is_block f p.label) None (before_node f p.label) (λ _. tt) (λ _. out_back p stands))
      (λ _. into_back p.label p.offset stands (child_before f p.label p.offset) refl))

  first_back : (p : Point) → IsWithin f h p.label → Back (first_equivalent f p)
  unfolding first_equivalent
  first_back p inside = walk_keeps Back (previous_point f) (turn_bound f) p previous_back (inl inside)

  -- ---- their order

  past_in : (p q : Point) → IsPast f h p → IsWithin f h q.label → is_before f p q ≡ false
  past_in p q past inside =
      (before_it f once p past.top past.kid past.child past.side).none q.label q.offset (within_trans f past.kid h q.label once past.holds inside)

  in_ahead : (p q : Point) → IsWithin f h p.label → IsAhead f h q → is_before f p q ≡ false
  in_ahead p q inside ahead =
      (after_it f once q ahead.top ahead.kid ahead.child ahead.side).none p.label p.offset (within_trans f ahead.kid h p.label once ahead.holds inside)

  -- the point of either stands in the tree of the node above
  past_tree : (p : Point) (past : IsPast f h p) → IsWithin f past.top p.label
  past_tree p past =
      let top_here = (parent_count f past.kid past.top once past.child).1 in
      elim past.side [
        | inl (is, low) ↦ subst (λ l. IsWithin f past.top l) (sym is) (within_self f past.top once top_here)
        | inr (m, other, inside, low) ↦ within_trans f past.top m p.label once (within_child f past.top once top_here m past.top other (within_self f past.top once top_here)) inside
      ]

  ahead_tree : (q : Point) (ahead : IsAhead f h q) → IsWithin f ahead.top q.label
  ahead_tree q ahead =
      let top_here = (parent_count f ahead.kid ahead.top once ahead.child).1 in
      elim ahead.side [
        | inl (is, low) ↦ subst (λ l. IsWithin f ahead.top l) (sym is) (within_self f ahead.top once top_here)
        | inr (m, other, inside, low) ↦ within_trans f ahead.top m q.label once (within_child f ahead.top once top_here m ahead.top other (within_self f ahead.top once top_here)) inside
      ]

  past_ahead : (p q : Point) → IsPast f h p → IsAhead f h q → is_before f p q ≡ false
  past_ahead p q past ahead =
      let p_here = there f once past.kid past.top past.child in
      let q_here = there f once ahead.kid ahead.top ahead.child in
      elim (eqb_tells past.kid ahead.kid) [
        | inl (_, same) ↦ (
            let top : ahead.top ≡ past.top = one_parent f once past.kid past.top ahead.top past.child (subst (λ k. parent_of f k ≡ Some ahead.top) (sym same) ahead.child) in
            let side : Follows f q past.top past.kid = subst (λ t. Follows f q t past.kid) top (subst (λ k. Follows f q ahead.top k) (sym same) ahead.side) in
            (order f once q p past.top past.kid past.child side past.side).1)
        | inr (_, off) ↦ elim (nested_by f once (suc (depth_of f h)) past.kid ahead.kid h (omega arith) p_here q_here past.holds ahead.holds) [
          | inl below ↦ (
              let up = within_step f past.kid once p_here ahead.kid ahead.top off ahead.child below in
              (before_it f once p past.top past.kid past.child past.side).none q.label q.offset (within_trans f past.kid ahead.top q.label once up (ahead_tree q ahead)))
          | inr above ↦ (
              let up = within_step f ahead.kid once q_here past.kid past.top (λ e. off (sym e)) past.child above in
              (after_it f once q ahead.top ahead.kid ahead.child ahead.side).none p.label p.offset (within_trans f ahead.kid past.top p.label once up (past_tree p past)))
        ]
      ]

  -- so where the one comes before the other, both are in the host
  pub equivalents_inside : (p q : Point) → IsWithin f h p.label → IsWithin f h q.label → comes_before f (last_equivalent f p) (first_equivalent f q) ≡ true → IsWithin f h (last_equivalent f p).label × IsWithin f h (first_equivalent f q).label
  unfolding comes_before
  equivalents_inside p q in_p in_q before =
      let a = last_equivalent f p in
      let b = first_equivalent f q in
      let comes : is_before f a b ≡ true = (and_parts (is_there f b.label) (is_before f a b) (and_parts (is_there f a.label) _ before).1).1 in
      elim (last_onward p in_p) [
        | inl in_a ↦ elim (first_back q in_q) [
          | inl in_b ↦ (in_a, in_b)
          | inr ahead ↦ absurd (true≢false (sym comes ∙ in_ahead a b in_a ahead))
        ]
        | inr past ↦ elim (first_back q in_q) [
          | inl in_b ↦ absurd (true≢false (sym comes ∙ past_in a b past in_b))
          | inr ahead ↦ absurd (true≢false (sym comes ∙ past_ahead a b past ahead))
        ]
      ]
