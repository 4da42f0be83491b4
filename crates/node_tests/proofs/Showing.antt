-- What shows in the tree of a node, by its children.
use Rattle.std.proofs.Common.{◌≡◌, ℕ, ◌<◌, Bool, true, false, not, ◌&&◌, ◌||◌, Option, Some, refl, sym, ap, ◌∙◌}
use Rattle.node_styles.specs.DomModel.declared.Content.{Content}
use Rattle.node_styles.specs.DomModel.Forest.{Forest, join, count_of, IsDistinct, tree_of, parent_of, first_of, next_of}
use Rattle.node_styles.specs.DomModel.Forest.Forest.{Nil, Tree}
use Rattle.node_styles.specs.DomModel.Places.{onward}
use Rattle.node_tests.specs.Visible.{is_boxless, shows, shows_in}
use Rattle.node_tests.specs.Listing.{siblings}
use Rattle.node_tests.proofs.Inside.{tree_is_kids, onward_is_tree}
use Rattle.node_tests.proofs.Around.{content_at}

pub or_assoc : (a b c : Bool) → ((a || b) || c) ≡ (a || (b || c))
or_assoc true b c = refl
or_assoc false b c = refl

pub or_false : (b : Bool) → (b || false) ≡ b
or_false true = refl
or_false false = refl

module _ (f : Forest Content) where
  shows_in-join : (g h : Forest Content) → shows_in f (join g h) ≡ (shows_in f g || shows_in f h)
  shows_in-join Nil h = refl
  shows_in-join (Tree m c ks rest) h =
      ap (λ b. (not (is_boxless f m) && (shows f m || shows_in f ks)) || b) (shows_in-join rest h)
      ∙ sym (or_assoc (not (is_boxless f m) && (shows f m || shows_in f ks)) (shows_in f rest) (shows_in f h))

module _ (f : Forest Content) (once : IsDistinct f) where
  module _ (l : ℕ) (here : 0 < count_of f l) (b : Bool) (boxless : b ≡ is_boxless f l) where
    own : shows_in f (tree_of f l) ≡ (not b && (shows f l || shows_in f (siblings f (first_of f l))))
    own =
        let c = content_at f once l here in
        ap (shows_in f) (tree_is_kids f once l c.0 here c.1)
        ∙ or_false (not (is_boxless f l) && (shows f l || shows_in f (siblings f (first_of f l))))
        ∙ ap (λ x. not x && (shows f l || shows_in f (siblings f (first_of f l)))) (sym boxless)

    pub boxless_hides : b ≡ true → false ≡ shows_in f (tree_of f l)
    boxless_hides e = sym (own ∙ ap (λ x. not x && (shows f l || shows_in f (siblings f (first_of f l)))) e)

    module _ (s : Bool) (shown : s ≡ shows f l) (boxed : b ≡ false) where
      own_shown : shows_in f (tree_of f l) ≡ (s || shows_in f (siblings f (first_of f l)))
      own_shown =
          own
          ∙ ap (λ x. not x && (shows f l || shows_in f (siblings f (first_of f l)))) boxed
          ∙ ap (λ x. x || shows_in f (siblings f (first_of f l))) (sym shown)

      pub node_shows : s ≡ true → true ≡ shows_in f (tree_of f l)
      node_shows e = sym (own_shown ∙ ap (λ x. x || shows_in f (siblings f (first_of f l))) e)

      pub kids_show : (o : Option ℕ) → s ≡ false → o ≡ first_of f l → shows_in f (tree_of f l) ≡ shows_in f (siblings f o)
      kids_show o e is = own_shown ∙ ap (λ x. x || shows_in f (siblings f (first_of f l))) e ∙ ap (λ x. shows_in f (siblings f x)) (sym is)

  pub next_shows : (k p : ℕ) → parent_of f k ≡ Some p → (o : Option ℕ) → o ≡ next_of f k → (b : Bool) → b ≡ shows_in f (tree_of f k) → shows_in f (onward f k) ≡ (b || shows_in f (siblings f o))
  next_shows k p child o next b e =
      ap (shows_in f) (onward_is_tree f once k p child ∙ ap (λ x. join (tree_of f k) (siblings f x)) (sym next))
      ∙ shows_in-join f (tree_of f k) (siblings f o)
      ∙ ap (λ x. x || shows_in f (siblings f o)) (sym e)
