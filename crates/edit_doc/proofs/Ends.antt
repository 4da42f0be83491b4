-- Points of a parent lie up to its end.
use Rattle.std.proofs.Common.{◌≡◌, ◌≢◌, ℕ, ◌≤◌, true, false, List, length, Option, Some, None, IfSome, refl, ap, ◌∙◌, arith}
use Rattle.std.proofs.lemmas.Bool.{ne_eqb}
use Rattle.std.proofs.lemmas.List.Elements.{All-weaker}
use Rattle.edit_model.specs.DomModel.declared.Content.{Content}
use Rattle.edit_model.specs.DomModel.Contents.{length_of}
use Rattle.edit_model.specs.DomModel.Forest.{Forest, parent_of, children_of, unlink, IsDistinct}
use Rattle.edit_model.proofs.DomModel.Links.{children_of-unlink}
use Rattle.edit_model.specs.LiveRange.declared.places.Pair.{Pair}
use Rattle.edit_model.specs.LiveRange.declared.places.Point.{Point}
use Rattle.edit_model.specs.LiveRange.LivePoints.{LivePoints}
use Rattle.edit_model.specs.PointOrder.PointOrder.{is_placed}
use Rattle.edit_model.specs.Edit.{index_before}
use Rattle.edit_model.specs.Valid.{IsPlacedPair, IsPlaced}
use Rattle.edit_model.proofs.Points.{placed_is}
use Rattle.edit_parts.specs.Following.{AreUpTo, IsPairUpTo}

-- the end of a parent that a node doesn't come from
pub end_index : (f : Forest Content) (o n p : ℕ) (b : Option ℕ) → IsDistinct f → parent_of f n ≡ Some o → o ≢ p → b ≡ None → index_before (unlink f n) p b ≡ length (children_of f p)
unfolding index_before
end_index f o n p None once up off e = (let other = ne_eqb o p off in ap length (children_of-unlink f o n once up p ∙ rw other refl))
end_index f o n p (Some m) once up off e = absurd (cc)

module _ (f : Forest Content) (p k : ℕ) (same : length_of f p ≡ k) where
  point_up_to : (x : Point) → is_placed f x ≡ true → x.label ≡ p → x.offset ≤ k
  point_up_to x h at = (let t = placed_is f x h in omega (arith, t.fits, ap (length_of f) at, same))

  pair_up_to : (q : Pair) → IsPlacedPair f q → IsPairUpTo p k q
  pair_up_to q h = (point_up_to q.anchor h.anchor, point_up_to q.focus h.focus)

  some_up_to : (o : Option Pair) → IfSome o (IsPlacedPair f) → IfSome o (IsPairUpTo p k)
  some_up_to None h = tt
  some_up_to (Some q) h = pair_up_to q h

  pub points_up_to : (s : LivePoints) → IsPlaced f s → AreUpTo p k s
  points_up_to s h = record {
    selection = some_up_to s.selection h.selection;
    scratch = some_up_to s.scratch h.scratch;
    marks = All-weaker (λ (m : List ℕ × Pair). IsPlacedPair f m.1) (λ (m : List ℕ × Pair). IsPairUpTo p k m.1) (λ m q. pair_up_to m.1 q) s.marks h.marks;
  }
