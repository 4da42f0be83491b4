-- What a walk over whitespace knows of a node by the one before it, from which the standard's walk passes it.
use Rattle.std.proofs.Common.{◌≡◌, ℕ, zero, suc, ◌+◌, ◌≤◌, Bool, true, false, cond, not, Option, Some, None, refl, sym, ap, subst, ◌∙◌, inl, inr, arith}
use Rattle.std.specs.Option.{option_map}
use Rattle.edit_model.specs.DomModel.declared.Content.{Content}
use Rattle.edit_model.specs.DomModel.Contents.{length_of}
use Rattle.edit_model.specs.DomModel.Forest.{Forest, parent_of}
use Rattle.edit_model.specs.DomModel.Places.{index_of}
use Rattle.edit_model.specs.LiveRange.declared.places.Point.{Point}
use Rattle.edit_model.specs.NodeArena.declared.NodeRef.{NodeRef}
use Rattle.edit_model.specs.NodeArena.Reads.{IsValid}
use Rattle.inline_value.specs.NodeStyles.TurnBound.{turn_bound}
use Rattle.inline_value.specs.NodeTests.Sides.{other}
use Rattle.inline_value.specs.NodeTests.BlockPoints.{child_before, child_at, edge, is_block_boundary}
use Rattle.inline_value.specs.NodeTests.LineBreaks.{Place, Turn, end_of, own_place, out_to, child_beside, go_past, turn_to, walk, meets_break, follows_break, precedes_break}
use Rattle.inline_value.specs.NodeTests.LineBreaks.Turn.{Answer, GoOn}
use Rattle.inline_value.specs.NodeTests.Visible.{is_visible}
use Rattle.inline_value.proofs.NodeTests.Reaching.{at_child}
use Rattle.edit_model.specs.State.{State}
use Rattle.edit_model.specs.Confined.{is_inside}
use Rattle.delete_core.specs.Places.{at, start_in, end_in, before_node, after_node, if_inside}
use Rattle.delete_core.specs.InLine.{FollowsNone, PrecedesNone}
use Rattle.delete_core.specs.Whitespace.{out_to_start, out_to_end}

not_both : true ≡ false → ⊥
not_both e = absurd (let t = e in cc)

pub not_so : (b : Bool) → not b ≡ true → b ≡ false
not_so true e = absurd (not_both (sym e))
not_so false e = refl

-- with more turns a walk gives the same answer, where it doesn't stop for want of them
walk_more : (turn : Place → Turn) (n m : ℕ) (place : Place) → n ≤ m → walk turn n place ≡ false → walk turn m place ≡ false
walk_more turn zero m place few is = absurd (not_both is)
walk_more turn (suc n) zero place few is = absurd (omega (arith, few))
walk_more turn (suc n) (suc m) place few is = by_turn (turn place) (λ next rest. walk_more turn n m next (omega (arith, few)) rest) is
  where
    by_turn : (t : Turn) → ((next : Place) → walk turn n next ≡ false → walk turn m next ≡ false) → elim t [ Answer b ↦ b | GoOn next ↦ walk turn n next ] ≡ false → elim t [ Answer b ↦ b | GoOn next ↦ walk turn m next ] ≡ false
    by_turn (Answer b) more is = is
    by_turn (GoOn next) more is = more next is

-- the type of a side is named by no other crate than its own
module _ (side : _) (f : Forest Content) where
  -- from a place where the walk meets no boundary it goes past what stands beside the place
  led : (n : ℕ) (place next : Place) → go_past side f place.node (child_beside side f place.node place.offset) ≡ GoOn next → walk (turn_to side f) n place ≡ false → (m : ℕ) × (m ≤ n) × (walk (turn_to side f) m next ≡ false)
  unfolding turn_to
  led zero place next goes is = absurd (not_both is)
  led (suc n) place next goes is = by_boundary (is_block_boundary f place.node place.offset) (go_past side f place.node (child_beside side f place.node place.offset)) goes is
    where
      by_boundary : (b : Bool) (t : Turn) → t ≡ GoOn next → elim (cond b (Answer true) t) [ Answer b ↦ b | GoOn to ↦ walk (turn_to side f) n to ] ≡ false → (m : ℕ) × (m ≤ suc n) × (walk (turn_to side f) m next ≡ false)
      by_boundary true t e is = absurd (not_both is)
      by_boundary false t e is = (n, omega arith, subst (λ t. elim t [ Answer b ↦ b | GoOn to ↦ walk (turn_to side f) n to ] ≡ false) e is)

  -- what a walk from an end of a place's node comes to says the same of the node at whose end the place is
  ends : (n : ℕ) (k o : ℕ) → n ≤ turn_bound f → o ≡ edge side f k → walk (turn_to side f) n (record { node = k; offset = o }) ≡ false → meets_break side f k ≡ false
  unfolding meets_break
  ends n k o few same is = walk_more (turn_to side f) n (turn_bound f) (end_of side f k) few (subst (λ o. walk (turn_to side f) n (record { node = k; offset = o }) ≡ false) same is)

  module _ (m p : ℕ) (none : child_beside side f m (edge side f m) ≡ None) (child : parent_of f m ≡ Some p) (is : meets_break side f m ≡ false) where
    -- out of a node, to the place beside it
    out : (n : ℕ) × (n ≤ turn_bound f) × (walk (turn_to side f) n (record { node = p; offset = own_place side (index_of f m) }) ≡ false)
    unfolding meets_break
    out = led (turn_bound f) (end_of side f m) (record { node = p; offset = own_place side (index_of f m) }) (ap (go_past side f m) none ∙ ap (out_to side f m) child) is

    -- the parent, where the node stands at its end
    pub above : own_place side (index_of f m) ≡ edge side f p → meets_break side f p ≡ false
    above same = ends out.0 p (own_place side (index_of f m)) out.1 same out.2

    -- the node beside it that shows nothing and has one place
    pub beside : (k : ℕ) → child_beside side f p (own_place side (index_of f m)) ≡ Some k → is_visible f k ≡ false → edge (other side) f k ≡ edge side f k → meets_break side f k ≡ false
    beside k next hidden one =
        let past = led out.0 (record { node = p; offset = own_place side (index_of f m) }) (end_of (other side) f k) (ap (go_past side f p) next ∙ ap (λ b. cond b (Answer false) (GoOn (end_of (other side) f k))) hidden) out.2 in
        ends past.0 k (edge (other side) f k) (omega (arith, past.1, out.1)) one past.2

-- ---- the places before and after a node

nothing_there : {A : Type 0} (a : A) → None ≡ Some a → ⊥
nothing_there a e = absurd (let t = e in cc)

same_point : (p q : Point) → Some p ≡ Some q → p ≡ q
same_point p q e = let t = e in cc

module _ (f : Forest Content) (m : ℕ) (p : Point) where
  just_before : before_node f m ≡ Some p → (parent_of f m ≡ Some p.label) × (index_of f m ≡ p.offset)
  unfolding before_node
  just_before e = by_parent (parent_of f m) e
    where
      by_parent : (o : Option ℕ) → option_map (λ q. at q (index_of f m)) o ≡ Some p → (o ≡ Some p.label) × (index_of f m ≡ p.offset)
      by_parent None e = absurd (nothing_there p e)
      by_parent (Some q) e = let t = same_point (at q (index_of f m)) p e in (ap (λ p. Some p.label) t, ap (λ p. p.offset) t)

  just_after : after_node f m ≡ Some p → (parent_of f m ≡ Some p.label) × (index_of f m + 1 ≡ p.offset)
  unfolding after_node
  just_after e = by_parent (parent_of f m) e
    where
      by_parent : (o : Option ℕ) → option_map (λ q. at q (index_of f m + 1)) o ≡ Some p → (o ≡ Some p.label) × (index_of f m + 1 ≡ p.offset)
      by_parent None e = absurd (nothing_there p e)
      by_parent (Some q) e = let t = same_point (at q (index_of f m + 1)) p e in (ap (λ p. Some p.label) t, ap (λ p. p.offset) t)

-- a node that is inside is that node
inside_is : (s : State) (o : Option ℕ) (k : ℕ) → if_inside s o ≡ Some k → o ≡ Some k
inside_is s None k e = e
inside_is s (Some l) k e = by_test (is_inside s l) e
  where
    by_test : (b : Bool) → cond b (Some l) None ≡ Some k → Some l ≡ Some k
    by_test true e = e
    by_test false e = absurd (nothing_there k e)

-- ---- back

module _ (f : Forest Content) where
  pub follows_at : (l : ℕ) → FollowsNone f (start_in l) → follows_break f l ≡ false
  unfolding follows_break
  follows_at l known =
      elim known.place [
        | inl e ↦ ap (follows_break f) (ap (λ p. p.label) e) ∙ known.follows
        | inr e ↦ (let t = just_before f known.node (start_in l) e in above _ f known.node l refl t.0 known.follows t.1)
      ]

  follows_child : (p : Point) (k : ℕ) → FollowsNone f p → child_before f p.label p.offset ≡ Some k → is_visible f k ≡ false → length_of f k ≡ 0 → FollowsNone f (end_in f k)
  unfolding follows_break
  follows_child p k known next hidden one = record {
    node = k;
    follows = elim known.place [
      | inl e ↦ absurd (nothing_there k (subst (λ (o : ℕ). child_before f p.label o ≡ Some k) (ap (λ (p : Point). p.offset) e) next))
      | inr e ↦ (let t = just_before f known.node p e in beside _ f known.node p.label refl t.0 known.follows k (ap (child_before f p.label) t.1 ∙ next) hidden one)
    ];
    place = inl (ap (at k) one);
  }

pub follows_inner : (s : State) (p : Point) (k : ℕ) → FollowsNone s.trees p → Some k ≡ if_inside s (child_before s.trees p.label p.offset) → is_visible s.trees k ≡ false → length_of s.trees k ≡ 0 → FollowsNone s.trees (end_in s.trees k)
follows_inner s p k known next hidden one = follows_child s.trees p k known (inside_is s (child_before s.trees p.label p.offset) k (sym next)) hidden one

pub follows_outer : (s : State) (l : ℕ) (q : Point) → Some q ≡ out_to_start s l → follows_break s.trees l ≡ false → FollowsNone s.trees q
unfolding out_to_start before_node
follows_outer s l q out follows = record { node = l; follows = follows; place = inr (by_parent (if_inside s (parent_of s.trees l)) refl (sym out)) }
  where
    by_parent : (o : Option ℕ) → if_inside s (parent_of s.trees l) ≡ o → option_map (λ p. at p (index_of s.trees l)) o ≡ Some q → option_map (λ p. at p (index_of s.trees l)) (parent_of s.trees l) ≡ Some q
    by_parent None e is = absurd (nothing_there q is)
    by_parent (Some p) e is = ap (option_map (λ p. at p (index_of s.trees l))) (inside_is s (parent_of s.trees l) p e) ∙ is

-- ---- on

module _ {holds : NodeRef → Type 0} {f : Forest Content} {upper : ℕ} (law : IsValid holds f upper) where
  none_after : (m : ℕ) → child_at f m (length_of f m) ≡ None
  none_after m = by_child (child_at f m (length_of f m)) refl
    where
      by_child : (o : Option ℕ) → child_at f m (length_of f m) ≡ o → o ≡ None
      by_child None e = refl
      by_child (Some k) e = absurd (omega (arith, (at_child law m k (length_of f m) e).2))

  pub precedes_at : (l : ℕ) → PrecedesNone f (end_in f l) → precedes_break f l ≡ false
  unfolding precedes_break
  precedes_at l known =
      elim known.place [
        | inl e ↦ ap (precedes_break f) (ap (λ p. p.label) e) ∙ known.precedes
        | inr e ↦ (let t = just_after f known.node (end_in f l) e in above _ f known.node l (none_after known.node) t.0 known.precedes t.1)
      ]

  precedes_child : (p : Point) (k : ℕ) → PrecedesNone f p → child_at f p.label p.offset ≡ Some k → is_visible f k ≡ false → length_of f k ≡ 0 → PrecedesNone f (start_in k)
  unfolding precedes_break
  precedes_child p k known next hidden one = record {
    node = k;
    precedes = elim known.place [
      | inl e ↦ absurd (nothing_there k (sym (none_after known.node) ∙ subst (λ (p : Point). child_at f p.label p.offset ≡ Some k) e next))
      | inr e ↦ (let t = just_after f known.node p e in beside _ f known.node p.label (none_after known.node) t.0 known.precedes k (ap (child_at f p.label) t.1 ∙ next) hidden (sym one))
    ];
    place = inl (ap (at k) (sym one));
  }

module _ {holds : NodeRef → Type 0} (s : State) {upper : ℕ} (law : IsValid holds s.trees upper) where
  pub precedes_inner : (p : Point) (k : ℕ) → PrecedesNone s.trees p → Some k ≡ if_inside s (child_at s.trees p.label p.offset) → is_visible s.trees k ≡ false → length_of s.trees k ≡ 0 → PrecedesNone s.trees (start_in k)
  precedes_inner p k known next hidden one = precedes_child law p k known (inside_is s (child_at s.trees p.label p.offset) k (sym next)) hidden one

pub precedes_outer : (s : State) (l : ℕ) (q : Point) → Some q ≡ out_to_end s l → precedes_break s.trees l ≡ false → PrecedesNone s.trees q
unfolding out_to_end after_node
precedes_outer s l q out precedes = record { node = l; precedes = precedes; place = inr (by_parent (if_inside s (parent_of s.trees l)) refl (sym out)) }
  where
    by_parent : (o : Option ℕ) → if_inside s (parent_of s.trees l) ≡ o → option_map (λ p. at p (index_of s.trees l + 1)) o ≡ Some q → option_map (λ p. at p (index_of s.trees l + 1)) (parent_of s.trees l) ≡ Some q
    by_parent None e is = absurd (nothing_there q is)
    by_parent (Some p) e is = ap (option_map (λ p. at p (index_of s.trees l + 1))) (inside_is s (parent_of s.trees l) p e) ∙ is
