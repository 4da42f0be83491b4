-- Which of two points comes first, by what is known of the children toward their nodes.
use Rattle.std.proofs.Common.{◌≡◌, ◌≢◌, ℕ, Option, Some, None, refl, ap, ◌∙◌, inl, inr, nat_lt, nat_le}
use Rattle.std.proofs.lemmas.Bool.Decides.{eqb_tells}
use Rattle.node_arena.specs.DomModel.declared.Content.{Content}
use Rattle.node_arena.specs.DomModel.Forest.{Forest, is_label}
use Rattle.node_arena.specs.DomModel.Places.{index_of, first_of_two}
use Rattle.live_range.specs.declared.places.Point.{Point}
use Rattle.point_order.specs.PointOrder.{child_toward, is_before, is_before_apart, is_before_below}

module _ (f : Forest Content) (p q : Point) where
  pub is_before-same : p.label ≡ q.label → nat_lt p.offset q.offset ≡ is_before f p q
  unfolding is_before
  is_before-same e = elim (eqb_tells p.label q.label) [ inl (t, _) ↦ rw t refl | inr (_, off) ↦ absurd (off e) ]

  by_child : p.label ≢ q.label → is_before_apart f p q (child_toward f p.label q.label) ≡ is_before f p q
  unfolding is_before
  by_child off = elim (eqb_tells p.label q.label) [ inl (_, e) ↦ absurd (off e) | inr (t, _) ↦ rw t refl ]

  module _ (off : p.label ≢ q.label) (a b : ℕ) (at_a : a ≡ p.label) (at_b : b ≡ q.label) where
    first_child : child_toward f a b ≡ child_toward f p.label q.label
    first_child = rw (at_a, at_b) refl

    second_child : child_toward f b a ≡ child_toward f q.label p.label
    second_child = rw (at_a, at_b) refl

    pub is_before-child : (k n : ℕ) → Some k ≡ child_toward f a b → n ≡ index_of f k → nat_le p.offset n ≡ is_before f p q
    is_before-child k n e at = rw at (ap (is_before_apart f p q) (e ∙ first_child) ∙ by_child off)

    pub is_before-under : (k n : ℕ) → None ≡ child_toward f a b → Some k ≡ child_toward f b a → n ≡ index_of f k → nat_lt n q.offset ≡ is_before f p q
    is_before-under k n none e at =
        rw at (ap (is_before_below f p q) (e ∙ second_child) ∙ ap (is_before_apart f p q) (none ∙ first_child) ∙ by_child off)

    pub is_before-beside : (o : Option ℕ) → None ≡ child_toward f a b → None ≡ child_toward f b a → o ≡ first_of_two f a b → is_label o p.label ≡ is_before f p q
    is_before-beside o none none' at =
        ap (λ x. is_label x p.label) (at ∙ same_first)
        ∙ ap (is_before_below f p q) (none' ∙ second_child)
        ∙ ap (is_before_apart f p q) (none ∙ first_child)
        ∙ by_child off
      where
        same_first : first_of_two f a b ≡ first_of_two f p.label q.label
        same_first = rw (at_a, at_b) refl
