-- No node of another tree than the start's is contained in a range, nor in effect.
use Rattle.std.proofs.Common.{◌≡◌, ◌≢◌, ℕ, zero, suc, ◌<◌, Bool, true, false, not, ◌&&◌, ◌||◌, Option, Some, None, refl, sym, ap, ◌∙◌, inl, inr, arith, eqb}
use Rattle.std.proofs.lemmas.Bool.Decides.{eqb_tells}
use Rattle.node_styles.specs.DomModel.declared.Content.{Content}
use Rattle.node_styles.specs.DomModel.Contents.{length_of}
use Rattle.node_styles.specs.DomModel.Forest.{Forest, count_of, IsDistinct, IsWithin, tree_of, parent_of, depth_of}
use Rattle.node_styles.specs.DomModel.Places.{first_of_two}
use Rattle.node_styles.proofs.DomModel.Links.{parent_count}
use Rattle.node_styles.proofs.DomModel.Within.{within_self, within_child, depth_of-parent}
use Rattle.node_styles.proofs.DomModel.Earlier.{first_of_two-within, first_of_two-apart}
use Rattle.point_order.specs.LiveRange.declared.places.Point.{Point}
use Rattle.point_order.specs.PointOrder.{is_before, child_toward}
use Rattle.node_tests.specs.declared.listing.Wanted.{Wanted}
use Rattle.node_tests.specs.declared.listing.Wanted.TheVariants.{Contained, Effective}
use Rattle.node_tests.specs.CollapsedWhitespace.{is_words}
use Rattle.node_tests.specs.Listing.{is_wanted}
use Rattle.node_tests.specs.Ranges.{is_contained, is_partial, is_touched, all_effective, is_effectively_contained}
use Rattle.node_tests.proofs.Wanting.{passed, passed_root}
use Rattle.node_tests.proofs.Pieces.{count_in_tree}
use Rattle.node_tests.proofs.Toward.{through, toward_none}
use Rattle.node_tests.proofs.Untouched.{all_false, some_trees}

module _ (f : Forest Content) (once : IsDistinct f) where
  abbrev pub Rooted : ℕ → Type 0
  Rooted l = (y : ℕ) × (0 < count_of f y) × (parent_of f y ≡ None) × IsWithin f y l

  pub root_above : (n l : ℕ) → depth_of f l < n → 0 < count_of f l → Rooted l
  root_above zero l low here = absurd (omega (arith, low))
  root_above (suc n) l low here =
      by_parent (parent_of f l) refl (λ p e. root_above n p (omega (arith, low, depth_of-parent f l p once e)) (parent_count f l p once e).1)
    where
      by_parent : (o : Option ℕ) → parent_of f l ≡ o → ((p : ℕ) → parent_of f l ≡ Some p → Rooted p) → Rooted l
      by_parent None e above = (l, here, e, within_self f l once here)
      by_parent (Some p) e above = let y = above p e in (y.0, y.1, y.2, within_child f y.0 once y.1 l p e y.3)

  module _ (root : ℕ) (there : 0 < count_of f root) (top : parent_of f root ≡ None) where
    -- a node of another tree has another root
    module _ (l : ℕ) (here : 0 < count_of f l) (out : IsWithin f root l → ⊥) where
      other : Rooted l
      other = root_above (suc (depth_of f l)) l (omega arith) here

      apart : root ≢ other.0
      apart same = out (rw same other.3)

      no_first : (a b : ℕ) → IsWithin f root a → IsWithin f l b → first_of_two f a b ≡ None
      no_first a b ia ib = first_of_two-apart f once root other.0 a b apart top other.2 there other.1 ia (through f once other.0 l b other.3 ib)

      pub not_below : (k : ℕ) → IsWithin f root k → IsWithin f l k → ⊥
      not_below k ia ib =
          let k_here : 0 < count_of f k = (let low = count_in_tree f root k in omega (arith, low, ia)) in
          let none = no_first k k ia ib in
          let some = first_of_two-within f k k once (within_self f k once k_here) in
          let t : None ≡ Some k = sym none ∙ some in
          cc

      -- no point of one is before one of the other
      pub no_order : (p q : Point) → q.label ≡ l → IsWithin f root p.label → is_before f p q ≡ false
      unfolding is_before
      no_order p q at inside =
          let q_in : IsWithin f l q.label = rw at (within_self f l once here) in
          let off : eqb p.label q.label ≡ false = elim (eqb_tells p.label q.label) [ inl (_, same) ↦ absurd (not_below p.label inside (rw same q_in)) | inr (t, _) ↦ t ] in
          let down : child_toward f p.label q.label ≡ None = toward_none f once p.label q.label (λ w. not_below q.label (through f once root p.label q.label inside w) q_in) in
          let up : child_toward f q.label p.label ≡ None = toward_none f once q.label p.label (λ w. not_below p.label inside (through f once l q.label p.label q_in w)) in
          rw (off, down, up, no_first p.label q.label inside q_in) refl

    module _ (start end : Point) (inside : IsWithin f root start.label) where
      pub not_contained : (l : ℕ) → 0 < count_of f l → (IsWithin f root l → ⊥) → is_contained f start end l ≡ false
      unfolding is_contained
      not_contained l here out = ap (λ v. v && is_before f (record { label = l; offset = length_of f l }) end) (no_order l here out start (record { label = l; offset = 0 }) refl inside)

      untouched : (k : ℕ) → 0 < count_of f k → (IsWithin f root k → ⊥) → IsWithin f root end.label → is_touched f start end k ≡ false
      unfolding is_touched is_partial
      untouched k here out end_in =
          let s_off : eqb k start.label ≡ false = elim (eqb_tells k start.label) [ inl (_, same) ↦ absurd (out (rw same inside)) | inr (t, _) ↦ t ] in
          let e_off : eqb k end.label ≡ false = elim (eqb_tells k end.label) [ inl (_, same) ↦ absurd (out (rw same end_in)) | inr (t, _) ↦ t ] in
          ap (λ v. v || is_partial f start end k) (not_contained k here out)
          ∙ (ap (λ v. is_words f k && ((v && not (eqb start.offset (length_of f k))) || (eqb k end.label && not (eqb end.offset 0)))) s_off
          ∙ (ap (λ v. is_words f k && (v && not (eqb end.offset 0))) e_off ∙ and_none (is_words f k)))
        where
          and_none : (v : Bool) → (v && false) ≡ false
          and_none true = refl
          and_none false = refl

      pub not_effective : 0 < count_of f end.label → (l : ℕ) → 0 < count_of f l → (IsWithin f root l → ⊥) → is_effectively_contained f start end l ≡ false
      unfolding is_effectively_contained
      not_effective end_here l here out = by_end (count_of (tree_of f root) end.label) refl
        where
          by_end : (n : ℕ) → count_of (tree_of f root) end.label ≡ n → (is_before f start end && all_effective f start end (tree_of f l)) ≡ false
          by_end zero e = ap (λ v. v && all_effective f start end (tree_of f l)) (no_order end.label end_here (λ w. omega (arith, e, w)) start end refl inside)
          by_end (suc n) e =
              let none : all_effective f start end (tree_of f l) ≡ false =
              all_false f start end (tree_of f l) (λ k h. let low = count_in_tree f l k in untouched k (omega (arith, low, h)) (λ w. not_below l here out k w h) (omega (arith, e)))
              (some_trees (tree_of f l) l (within_self f l once here)) in
              ap (λ v. is_before f start end && v) none ∙ (elim (is_before f start end) as (λ v. (v && false) ≡ false) [ true ↦ refl | false ↦ refl ])

      unwanted : (w : Wanted) → 0 < count_of f end.label → (l : ℕ) → 0 < count_of f l → (IsWithin f root l → ⊥) → is_wanted w f start end l ≡ false
      unfolding is_wanted
      unwanted Contained end_here l here out = not_contained l here out
      unwanted Effective end_here l here out = not_effective end_here l here out

      pub all_wanted : (w : Wanted) → 0 < count_of f end.label → passed (is_wanted w f start end) (tree_of f root) ≡ passed (is_wanted w f start end) f
      all_wanted w end_here =
          sym (passed_root (is_wanted w f start end) f root once there top (λ l here none. unwanted w end_here l here (λ o. omega (arith, o, none))))

      pub end_inside : 0 < count_of f end.label → is_before f start end ≡ true → IsWithin f root end.label
      end_inside end_here ordered = by_count (count_of (tree_of f root) end.label) refl
        where
          by_count : (n : ℕ) → count_of (tree_of f root) end.label ≡ n → IsWithin f root end.label
          by_count zero e = absurd (let none = no_order end.label end_here (λ o. omega (arith, e, o)) start end refl inside in let t : true ≡ false = sym ordered ∙ none in cc)
          by_count (suc n) e = omega (arith, e)
