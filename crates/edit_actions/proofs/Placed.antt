-- Placed points stand in the document.
use Rattle.std.proofs.Common.{◌≡◌, ℕ, ◌<◌, Bool, true, cond, ◌&&◌, arith, eqb}
use Rattle.std.specs.Prelude.{nat_lt}
use Rattle.std.proofs.lemmas.Bool.Decides.{nat_tests}
use Rattle.edit_model.specs.DomModel.declared.Content.{Content}
use Rattle.edit_model.specs.DomModel.Forest.{Forest, count_of, tree_of, IsWithin}
use Rattle.edit_model.proofs.DomModel.Totals.{total-without}
use Rattle.edit_model.specs.LiveRange.declared.places.Point.{Point}
use Rattle.edit_model.specs.PointOrder.PointOrder.{is_placed}

pub placed_inside : (f : Forest Content) (p : Point) → is_placed f p ≡ true → IsWithin f 0 p.label
unfolding is_placed
placed_inside f p h = by_tests (count_of (tree_of f 0) p.label) _ h
  where
    by_tests : (n : ℕ) (b : Bool) → (nat_lt 0 n && b) ≡ true → 0 < n
    by_tests n b h = grind (arith, nat_tests)

pub placed_here : (f : Forest Content) (p : Point) → is_placed f p ≡ true → 0 < count_of f p.label
placed_here f p h = let inner = placed_inside f p h in omega (arith, inner, total-without (λ m _. cond (eqb m p.label) 1 0) f 0)
