-- Whether a range contains a node in whose tree an end of it stands, and what a range contains that isn't in order.
use Rattle.std.proofs.Common.{◌≡◌, ◌≢◌, ℕ, zero, suc, ◌+◌, ◌<◌, ◌≤◌, Bool, true, false, not, ◌&&◌, Option, Some, None, refl, sym, ap, subst, ◌∙◌, inl, inr, arith, nat_lt, [], is_none}
use Rattle.std.proofs.lemmas.Bool.{le-ltb}
use Rattle.std.proofs.lemmas.Bool.Decides.{eqb_tells}
use Rattle.node_styles.specs.DomModel.declared.Content.{Content}
use Rattle.node_styles.specs.DomModel.Contents.{length_of}
use Rattle.node_styles.specs.DomModel.Forest.{Forest, IsDistinct, IsWithin, count_of, parent_of, children_of, depth_of, tree_of}
use Rattle.node_styles.proofs.DomModel.Links.{parent_count, eqb_refl_true}
use Rattle.node_styles.proofs.DomModel.Within.{within_parent, depth_of-parent}
use Rattle.point_order.specs.LiveRange.declared.places.Point.{Point}
use Rattle.node_styles.specs.NodeArena.declared.NodeRef.{NodeRef}
use Rattle.node_styles.specs.NodeArena.Reads.{IsValid}
use Rattle.point_order.specs.PointOrder.{is_before}
use Rattle.node_tests.specs.BlockPoints.{child_at}
use Rattle.node_tests.specs.declared.listing.Wanted.{Wanted}
use Rattle.node_tests.specs.declared.listing.Wanted.TheVariants.{Contained, Effective}
use Rattle.node_tests.specs.Listing.{is_wanted, LiesAfter}
use Rattle.node_tests.specs.Ranges.{is_contained}
use Rattle.node_tests.proofs.Elsewhere.{root_above, not_contained, no_order}
use Rattle.node_tests.proofs.Reaching.{side, order, index_at, after_it, before_it, child_with}
use Rattle.node_tests.proofs.Skipping.{own_before, own_after, out_before, out_after, and_none, reversed}
use Rattle.node_tests.proofs.Toward.{parent_among}
use Rattle.node_tests.proofs.Turning.{get_times, index_low}
use Rattle.node_tests.proofs.Wanting.{passed, passed_none}

pub set_off : (b : Bool) → not b ≡ true → b ≡ false
set_off true e = absurd (let t : false ≡ true = e in cc)
set_off false e = refl

pub set_on : (b : Bool) → not b ≡ false → b ≡ true
set_on true e = refl
set_on false e = absurd (let t : true ≡ false = e in cc)

abbrev front : ℕ → Point
front top = record { label = top; offset = 0 }

module _ (f : Forest Content) where
  abbrev back : ℕ → Point
  back top = record { label = top; offset = length_of f top }

  own_front : (p : Point) (top : ℕ) → p.label ≡ top → is_before f p (front top) ≡ false
  unfolding is_before
  own_front p top is = rw (is, eqb_refl_true top) (le-ltb p.offset 0 (omega arith))

  own_back : (p : Point) (top : ℕ) → p.label ≡ top → is_before f (back top) p ≡ nat_lt (length_of f top) p.offset
  unfolding is_before
  own_back p top is = rw (is, eqb_refl_true top) refl

  pub contained_parts : (start end : Point) (l : ℕ) (a b : Bool) → is_before f start (front l) ≡ a → is_before f (back l) end ≡ b → is_contained f start end l ≡ (a && b)
  unfolding is_contained
  contained_parts start end l a b e e' = ap (λ v. v && is_before f (back l) end) e ∙ ap (λ v. a && v) e'

  deeper : IsDistinct f → (n a x : ℕ) → depth_of f x < n → 0 < count_of f a → IsWithin f a x → depth_of f a ≤ depth_of f x
  deeper once zero a x low here inside = absurd (omega (arith, low))
  deeper once (suc n) a x low here inside =
      elim (eqb_tells a x) [
        | inl (_, is) ↦ rw is (omega arith)
        | inr (_, off) ↦ (
            let up = within_parent f a once here x off inside in
            let down = depth_of-parent f x up.0 once up.1 in
            let high = deeper once n a up.0 (omega (arith, low, down)) here up.2 in
            omega (arith, down, high))
      ]

module _ {holds : NodeRef → Type 0} {f : Forest Content} {upper : ℕ} (law : IsValid holds f upper) (start end : Point) where
  starts_in : (top : ℕ) → 0 < count_of f top → IsWithin f top start.label → is_before f start (front top) ≡ false
  starts_in top here inside =
      elim (eqb_tells start.label top) [
        | inl (_, is) ↦ own_front f start top is
        | inr (_, off) ↦ (
            let k = child_with f law.distinct top start.label here inside (λ e. off (sym e)) in
            (own_after f law.distinct (front top) k.0 k.1 (omega arith)).none start.label start.offset k.2)
      ]

  -- a node with the start in its tree isn't contained
  pub out_of_start : (top : ℕ) → 0 < count_of f top → IsWithin f top start.label → is_contained f start end top ≡ false
  out_of_start top here inside = contained_parts f start end top false (is_before f (back f top) end) (starts_in top here inside) refl

  -- one with the end in it is where the end is past its own end
  module _ (top : ℕ) (here : 0 < count_of f top) (after : LiesAfter f start top) (own : IsWithin f top top) where
    by_back : (b : Bool) → is_before f (back f top) end ≡ b → is_contained f start end top ≡ b
    by_back b e = contained_parts f start end top true b (after.comes top 0 own) e

    pub out_of_end : IsWithin f top end.label → end.label ≢ top → is_contained f start end top ≡ false
    out_of_end inside off =
        let k = child_with f law.distinct top end.label here inside (λ e. off (sym e)) in
        by_back false ((own_before f law.distinct (back f top) k.0 k.1 (index_low law k.0 top k.1)).none end.label end.offset k.2)

    pub past_end : end.label ≡ top → is_contained f start end top ≡ nat_lt (length_of f top) end.offset
    past_end is = by_back (nat_lt (length_of f top) end.offset) (own_back f end top is)

    pub not_past : end.label ≡ top → (m : ℕ) → child_at f top end.offset ≡ Some m → is_contained f start end top ≡ false
    not_past is m at =
        let child = parent_among f law.distinct top m (get_times (children_of f top) end.offset m at) in
        past_end is ∙ le-ltb (length_of f top) end.offset (omega (arith, index_low law m top child, index_at law top m end.offset child at))

    pub not_past_at : end.label ≡ top → (o : Option ℕ) → o ≡ child_at f top end.offset → is_none o ≡ false → is_contained f start end top ≡ false
    not_past_at is None at some = absurd (let t : true ≡ false = some in cc)
    not_past_at is (Some m) at some = not_past is m (sym at)

  -- ---- a range that isn't in order contains nothing

  module _ (apart : is_before f start end ≡ false) where
    none_below : (n a l : ℕ) → depth_of f l < n + depth_of f a → 0 < count_of f a → IsWithin f a l → IsWithin f a start.label → IsWithin f a end.label → is_contained f start end l ≡ false
    none_below zero a l low here inside from upto = absurd (let deep = deeper f law.distinct (suc (depth_of f l)) a l (omega arith) here inside in omega (arith, low, deep))
    none_below (suc n) a l low here inside from upto =
        elim (eqb_tells a l) [
          | inl (_, is) ↦ subst (λ x. is_contained f start end x ≡ false) is (out_of_start a here from)
          | inr (_, off) ↦ (
              let k = child_with f law.distinct a l here inside off in
              let k_here = (parent_count f k.0 a law.distinct k.1).0 in
              let less = depth_of-parent f k.0 a law.distinct k.1 in
              elim (side law start a k.0 here k.1 from) [
                | inl left ↦ elim (side law end a k.0 here k.1 upto) [
                  | inl side_end ↦ out_after f law.distinct start end k.0 (after_it f law.distinct end a k.0 k.1 side_end) l k.2
                  | inr (inl right) ↦ absurd (let on = (order f law.distinct start end a k.0 k.1 left right).0 in let off = apart in cc)
                  | inr (inr within_end) ↦ absurd (let on = (after_it f law.distinct start a k.0 k.1 left).comes end.label end.offset within_end in let off = apart in cc)
                ]
                | inr (inl right) ↦ out_before f law.distinct start end k.0 (before_it f law.distinct start a k.0 k.1 right) l k.2
                | inr (inr within_start) ↦ elim (side law end a k.0 here k.1 upto) [
                  | inl side_end ↦ out_after f law.distinct start end k.0 (after_it f law.distinct end a k.0 k.1 side_end) l k.2
                  | inr (inl right) ↦ absurd (let on = (before_it f law.distinct end a k.0 k.1 right).comes start.label start.offset within_start in let off = apart in cc)
                  | inr (inr within_end) ↦ none_below n k.0 l (omega (arith, low, less)) k_here k.2 within_start within_end
                ]
              ])
        ]

    pub none_contained : 0 < count_of f start.label → 0 < count_of f end.label → (l : ℕ) → 0 < count_of f l → is_contained f start end l ≡ false
    none_contained from_here end_here l here =
        let r = root_above f law.distinct (suc (depth_of f start.label)) start.label (omega arith) from_here in
        by_within r.0 r.1 r.2 r.3 (count_of (tree_of f r.0) l) refl (count_of (tree_of f r.0) end.label) refl
      where
        by_within : (y : ℕ) → 0 < count_of f y → parent_of f y ≡ None → IsWithin f y start.label → (n : ℕ) → count_of (tree_of f y) l ≡ n → (m : ℕ) → count_of (tree_of f y) end.label ≡ m → is_contained f start end l ≡ false
        by_within y there top from zero e m e' = not_contained f law.distinct y there top start end from l here (λ w. omega (arith, e, w))
        by_within y there top from (suc n) e zero e' =
            contained_parts f start end l (is_before f start (front l)) false refl
            (no_order f law.distinct y there top end.label end_here (λ w. omega (arith, e', w)) (back f l) end refl (omega (arith, e)))
            ∙ and_none (is_before f start (front l))
        by_within y there top from (suc n) e (suc m) e' = none_below (suc (depth_of f l)) y l (omega arith) there (omega (arith, e)) from (omega (arith, e'))

    unwanted : 0 < count_of f start.label → 0 < count_of f end.label → (w : Wanted) (l : ℕ) → 0 < count_of f l → is_wanted w f start end l ≡ false
    unfolding is_wanted
    unwanted from_here end_here Contained l here = none_contained from_here end_here l here
    unwanted from_here end_here Effective l here = reversed f law.distinct start end l apart

    pub none_wanted : 0 < count_of f start.label → 0 < count_of f end.label → (w : Wanted) → [] ≡ passed (is_wanted w f start end) f
    none_wanted from_here end_here w = sym (passed_none (is_wanted w f start end) f (unwanted from_here end_here w))
