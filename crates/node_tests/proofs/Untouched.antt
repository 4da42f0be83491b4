-- Trees of which a range touches no node aren't effectively contained.
use Rattle.std.proofs.Common.{◌≡◌, ℕ, ◌<◌, true, false, not, ◌&&◌, ◌||◌, Bool, refl, ap, ◌∙◌, arith}
use Rattle.node_styles.specs.DomModel.declared.Content.{Content}
use Rattle.node_styles.specs.DomModel.Forest.{Forest, count_of}
use Rattle.node_styles.specs.DomModel.Forest.Forest.{Nil, Tree}
use Rattle.node_styles.proofs.DomModel.Links.{eqb_refl_true}
use Rattle.point_order.specs.LiveRange.declared.places.Point.{Point}
use Rattle.node_tests.specs.Ranges.{is_touched, is_cut, has_trees, all_effective}

and_false : (a b : Bool) → ((a && false) && b) ≡ false
and_false true b = refl
and_false false b = refl

pub some_trees : (g : Forest Content) (k : ℕ) → 0 < count_of g k → has_trees g ≡ true
some_trees Nil k h = absurd (omega (arith, h))
some_trees (Tree m c ks rest) k h = refl

module _ (f : Forest Content) (start end : Point) where
  kids_false : (g : Forest Content) → (has_trees g ≡ true → all_effective f start end g ≡ false) → (has_trees g && all_effective f start end g) ≡ false
  kids_false Nil h = refl
  kids_false (Tree k c ks rest) h = h refl

  pub all_false : (g : Forest Content) → ((k : ℕ) → 0 < count_of g k → is_touched f start end k ≡ false) → has_trees g ≡ true → all_effective f start end g ≡ false
  all_false Nil off some = absurd (let s = some in cc)
  all_false (Tree k c ks rest) off some =
      let self = eqb_refl_true k in
      let at : 0 < count_of (Tree k c ks rest) k = (rw self (omega arith)) in
      let inner = kids_false ks (all_false ks (λ j h. off j (omega (arith, h)))) in
      ap (λ v. (v || (not (is_cut f start end k) && (has_trees ks && all_effective f start end ks))) && all_effective f start end rest) (off k at)
      ∙ (ap (λ v. (not (is_cut f start end k) && v) && all_effective f start end rest) inner ∙ and_false (not (is_cut f start end k)) (all_effective f start end rest))
