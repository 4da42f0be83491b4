-- Which nodes are collapsed block props, by their children.
use Rattle.std.proofs.Common.{◌≡◌, ℕ, ◌<◌, Bool, true, false, not, ◌&&◌, ◌||◌, Option, Some, None, refl, sym, ap, ◌∙◌}
use Rattle.node_styles.specs.DomModel.declared.Content.{Content}
use Rattle.node_styles.specs.DomModel.Forest.{Forest, join, count_of, IsDistinct, tree_of, parent_of, first_of, next_of}
use Rattle.node_styles.specs.DomModel.Forest.Forest.{Nil, Tree}
use Rattle.node_styles.specs.DomModel.Places.{onward}
use Rattle.node_styles.proofs.DomModel.Links.{parent_count}
use Rattle.node_tests.specs.Visible.{is_visible}
use Rattle.node_tests.specs.BlockProps.{Props, is_break_prop, is_inline_element, is_prop, props_in, is_block_prop}
use Rattle.node_tests.specs.Listing.{siblings}
use Rattle.node_tests.proofs.Inside.{tree_is_kids, onward_is_tree}
use Rattle.node_tests.proofs.Around.{content_at}
use Rattle.node_tests.proofs.Showing.{or_assoc, or_false}

pub and_assoc : (a b c : Bool) → ((a && b) && c) ≡ (a && (b && c))
and_assoc true b c = refl
and_assoc false b c = refl

pub and_true : (b : Bool) → (b && true) ≡ b
and_true true = refl
and_true false = refl

and_false : (b : Bool) → (b && false) ≡ false
and_false true = refl
and_false false = refl

module _ (f : Forest Content) where
  every-join : (g h : Forest Content) → (props_in f (join g h)).every ≡ ((props_in f g).every && (props_in f h).every)
  every-join Nil h = refl
  every-join (Tree m c ks rest) h =
      ap (λ b. (not (is_visible f m) || is_prop f m (props_in f ks)) && b) (every-join rest h)
      ∙ sym (and_assoc (not (is_visible f m) || is_prop f m (props_in f ks)) (props_in f rest).every (props_in f h).every)

  some-join : (g h : Forest Content) → (props_in f (join g h)).some ≡ ((props_in f g).some || (props_in f h).some)
  some-join Nil h = refl
  some-join (Tree m c ks rest) h =
      ap (λ b. is_prop f m (props_in f ks) || b) (some-join rest h)
      ∙ sym (or_assoc (is_prop f m (props_in f ks)) (props_in f rest).some (props_in f h).some)

module _ (f : Forest Content) (once : IsDistinct f) where
  kids_of : ℕ → Props
  kids_of l = props_in f (siblings f (first_of f l))

  prop_is : (l : ℕ) → 0 < count_of f l → is_block_prop f l ≡ is_prop f l (kids_of l)
  unfolding is_block_prop kids_of
  prop_is l here =
      let c = content_at f once l here in
      ap (λ g. (props_in f g).some) (tree_is_kids f once l c.0 here c.1) ∙ or_false (is_prop f l (props_in f (siblings f (first_of f l))))

  every_is : (l : ℕ) → 0 < count_of f l → (props_in f (tree_of f l)).every ≡ (not (is_visible f l) || is_block_prop f l)
  unfolding kids_of
  every_is l here =
      let c = content_at f once l here in
      ap (λ g. (props_in f g).every) (tree_is_kids f once l c.0 here c.1)
      ∙ and_true (not (is_visible f l) || is_prop f l (props_in f (siblings f (first_of f l))))
      ∙ ap (λ b. not (is_visible f l) || b) (sym (prop_is l here))

  module _ (l : ℕ) (here : 0 < count_of f l) (b : Bool) (at : b ≡ is_break_prop f l) where
    pub break_is : b ≡ true → true ≡ is_block_prop f l
    break_is e = sym (prop_is l here ∙ ap (λ x. x || (is_inline_element f l && ((kids_of l).every && (kids_of l).some))) (sym at ∙ e))

    module _ (i : Bool) (inline : i ≡ is_inline_element f l) (off : b ≡ false) where
      by_kids : is_block_prop f l ≡ (i && ((kids_of l).every && (kids_of l).some))
      by_kids =
          prop_is l here
          ∙ ap (λ x. x || (is_inline_element f l && ((kids_of l).every && (kids_of l).some))) (sym at ∙ off)
          ∙ ap (λ x. x && ((kids_of l).every && (kids_of l).some)) (sym inline)

      pub not_inline : i ≡ false → false ≡ is_block_prop f l
      not_inline e = sym (by_kids ∙ ap (λ x. x && ((kids_of l).every && (kids_of l).some)) e)

      -- before the first child
      pub kids_are : (o : Option ℕ) → i ≡ true → o ≡ first_of f l → is_block_prop f l ≡ ((props_in f (siblings f o)).every && (false || (props_in f (siblings f o)).some))
      unfolding kids_of
      kids_are o e is =
          by_kids
          ∙ ap (λ x. x && ((props_in f (siblings f (first_of f l))).every && (props_in f (siblings f (first_of f l))).some)) e
          ∙ ap (λ x. (props_in f (siblings f x)).every && (props_in f (siblings f x)).some) (sym is)

  module _ (k p : ℕ) (child : parent_of f k ≡ Some p) (o : Option ℕ) (next : o ≡ next_of f k) (found b : Bool) (own : b ≡ is_block_prop f k) where
    there : 0 < count_of f k
    there = (parent_count f k p once child).0

    step : onward f k ≡ join (tree_of f k) (siblings f o)
    step = onward_is_tree f once k p child ∙ ap (λ x. join (tree_of f k) (siblings f x)) (sym next)

    every_step : (props_in f (onward f k)).every ≡ ((not (is_visible f k) || b) && (props_in f (siblings f o)).every)
    every_step =
        ap (λ g. (props_in f g).every) step
        ∙ every-join f (tree_of f k) (siblings f o)
        ∙ ap (λ x. x && (props_in f (siblings f o)).every) (every_is k there ∙ ap (λ x. not (is_visible f k) || x) (sym own))

    some_step : (props_in f (onward f k)).some ≡ (b || (props_in f (siblings f o)).some)
    unfolding is_block_prop
    some_step =
        ap (λ g. (props_in f g).some) step
        ∙ some-join f (tree_of f k) (siblings f o)
        ∙ ap (λ x. x || (props_in f (siblings f o)).some) (sym own)

    -- a visible child that is no prop
    pub stops : (v : Bool) → v ≡ is_visible f k → v ≡ true → b ≡ false → false ≡ ((props_in f (onward f k)).every && (found || (props_in f (onward f k)).some))
    stops v visible is off =
        sym (ap (λ x. x && (found || (props_in f (onward f k)).some)) (
        every_step
        ∙ ap (λ x. (not x || b) && (props_in f (siblings f o)).every) (sym visible ∙ is)
        ∙ ap (λ x. x && (props_in f (siblings f o)).every) off))

    -- past a child that is a prop or invisible
    pub goes_on : ((not (is_visible f k) || b) ≡ true) → ((props_in f (onward f k)).every && (found || (props_in f (onward f k)).some)) ≡ ((props_in f (siblings f o)).every && ((found || b) || (props_in f (siblings f o)).some))
    goes_on fine =
        ap (λ x. x && (found || (props_in f (onward f k)).some)) (every_step ∙ ap (λ x. x && (props_in f (siblings f o)).every) fine)
        ∙ ap (λ x. (props_in f (siblings f o)).every && (found || x)) some_step
        ∙ ap (λ x. (props_in f (siblings f o)).every && x) (sym (or_assoc found b (props_in f (siblings f o)).some))

    pub fine_prop : b ≡ true → (not (is_visible f k) || b) ≡ true
    fine_prop e = ap (λ x. not (is_visible f k) || x) e ∙ or_true (not (is_visible f k))
      where
        or_true : (x : Bool) → (x || true) ≡ true
        or_true true = refl
        or_true false = refl

    pub fine_hidden : (v : Bool) → v ≡ is_visible f k → v ≡ false → (not (is_visible f k) || b) ≡ true
    fine_hidden v visible is = ap (λ x. not x || b) (sym visible ∙ is)

pub at_end : (f : Forest Content) (found : Bool) → ((props_in f (siblings f None)).every && (found || (props_in f (siblings f None)).some)) ≡ found
at_end f found = or_false found
