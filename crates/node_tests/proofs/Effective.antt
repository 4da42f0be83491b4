-- Which nodes a range contains in effect, by their children.
use Rattle.std.proofs.Common.{◌≡◌, ℕ, ◌<◌, Bool, true, false, not, ◌&&◌, ◌||◌, Option, Some, None, refl, sym, ap, ◌∙◌, is_none}
use Rattle.node_styles.specs.DomModel.declared.Content.{Content}
use Rattle.node_styles.specs.DomModel.Forest.{Forest, join, count_of, IsDistinct, tree_of, parent_of, first_of, next_of}
use Rattle.node_styles.specs.DomModel.Forest.Forest.{Nil, Tree}
use Rattle.node_styles.specs.DomModel.Places.{onward}
use Rattle.node_styles.proofs.DomModel.Neighbours.{parent_of-first}
use Rattle.point_order.specs.LiveRange.declared.places.Point.{Point}
use Rattle.node_tests.specs.Ranges.{is_contained, is_partial, is_touched, is_cut, has_trees, all_effective}
use Rattle.node_tests.specs.Listing.{siblings}
use Rattle.node_tests.proofs.Inside.{tree_is_kids, onward_is_tree}
use Rattle.node_tests.proofs.Around.{content_at}
use Rattle.node_tests.proofs.ChildAt.{own_onward}
use Rattle.node_tests.proofs.Propping.{and_assoc, and_true}

module _ (f : Forest Content) (start end : Point) where
  pub touched_by : (l : ℕ) (a b : Bool) → a ≡ is_contained f start end l → b ≡ is_partial f start end l → (a || b) ≡ is_touched f start end l
  unfolding is_touched
  touched_by l a b e e' = rw (e, e') refl

  effective-join : (g h : Forest Content) → all_effective f start end (join g h) ≡ (all_effective f start end g && all_effective f start end h)
  effective-join Nil h = refl
  effective-join (Tree m c ks rest) h =
      let own : Bool = is_touched f start end m || (not (is_cut f start end m) && (has_trees ks && all_effective f start end ks)) in
      ap (λ b. own && b) (effective-join rest h)
      ∙ sym (and_assoc own (all_effective f start end rest) (all_effective f start end h))

  module _ (once : IsDistinct f) where
    module _ (l : ℕ) (here : 0 < count_of f l) (t : Bool) (touched : t ≡ is_touched f start end l) where
      own_effective : all_effective f start end (tree_of f l) ≡ (t || (not (is_cut f start end l) && (has_trees (siblings f (first_of f l)) && all_effective f start end (siblings f (first_of f l)))))
      own_effective =
          let c = content_at f once l here in
          ap (all_effective f start end) (tree_is_kids f once l c.0 here c.1)
          ∙ and_true (is_touched f start end l || (not (is_cut f start end l) && (has_trees (siblings f (first_of f l)) && all_effective f start end (siblings f (first_of f l)))))
          ∙ ap (λ x. x || (not (is_cut f start end l) && (has_trees (siblings f (first_of f l)) && all_effective f start end (siblings f (first_of f l))))) (sym touched)

      pub touched_effective : t ≡ true → true ≡ all_effective f start end (tree_of f l)
      touched_effective e = sym (own_effective ∙ ap (λ x. x || (not (is_cut f start end l) && (has_trees (siblings f (first_of f l)) && all_effective f start end (siblings f (first_of f l))))) e)

      module _ (off : t ≡ false) (u : Bool) (cuts : u ≡ is_cut f start end l) where
        by_cut : all_effective f start end (tree_of f l) ≡ (not u && (has_trees (siblings f (first_of f l)) && all_effective f start end (siblings f (first_of f l))))
        by_cut =
            own_effective
            ∙ ap (λ x. x || (not (is_cut f start end l) && (has_trees (siblings f (first_of f l)) && all_effective f start end (siblings f (first_of f l))))) off
            ∙ ap (λ x. not x && (has_trees (siblings f (first_of f l)) && all_effective f start end (siblings f (first_of f l)))) (sym cuts)

        pub cut_ineffective : u ≡ true → false ≡ all_effective f start end (tree_of f l)
        cut_ineffective e = sym (by_cut ∙ ap (λ x. not x && (has_trees (siblings f (first_of f l)) && all_effective f start end (siblings f (first_of f l)))) e)

        module _ (whole : u ≡ false) (o : Option ℕ) (first : o ≡ first_of f l) where
          by_kids : all_effective f start end (tree_of f l) ≡ (has_trees (siblings f o) && all_effective f start end (siblings f o))
          by_kids =
              by_cut
              ∙ ap (λ x. not x && (has_trees (siblings f (first_of f l)) && all_effective f start end (siblings f (first_of f l)))) whole
              ∙ ap (λ x. has_trees (siblings f x) && all_effective f start end (siblings f x)) (sym first)

          pub childless_ineffective : is_none o ≡ true → false ≡ all_effective f start end (tree_of f l)
          childless_ineffective e = sym (by_kids ∙ by_option o e)
            where
              by_option : (o : Option ℕ) → is_none o ≡ true → (has_trees (siblings f o) && all_effective f start end (siblings f o)) ≡ false
              by_option None e = refl
              by_option (Some k) e = absurd (let t = e in cc)

          pub kids_effective : is_none o ≡ false → all_effective f start end (tree_of f l) ≡ all_effective f start end (siblings f o)
          kids_effective e = by_kids ∙ by_option o e first
            where
              by_option : (o : Option ℕ) → is_none o ≡ false → o ≡ first_of f l → (has_trees (siblings f o) && all_effective f start end (siblings f o)) ≡ all_effective f start end (siblings f o)
              by_option None e is = absurd (let t = e in cc)
              by_option (Some k) e is = ap (λ x. x && all_effective f start end (onward f k)) (ap has_trees (own_onward f once k l (parent_of-first f once l k (sym is))).3)

    pub next_effective : (k p : ℕ) → parent_of f k ≡ Some p → (o : Option ℕ) → o ≡ next_of f k → (b : Bool) → b ≡ all_effective f start end (tree_of f k) → all_effective f start end (onward f k) ≡ (b && all_effective f start end (siblings f o))
    next_effective k p child o next b e =
        ap (all_effective f start end) (onward_is_tree f once k p child ∙ ap (λ x. join (tree_of f k) (siblings f x)) (sym next))
        ∙ effective-join (tree_of f k) (siblings f o)
        ∙ ap (λ x. x && all_effective f start end (siblings f o)) (sym e)
