-- Where no kept point stands at a node, nothing grows at its places.
use Rattle.std.proofs.Common.{◌≡◌, Bool, true, false, if◌then◌else◌, refl, subst}
use Rattle.edit_model.specs.LiveRange.declared.places.Point.{Point}
use Rattle.edit_model.specs.LiveRange.PointsEdit.{has_label}
use Rattle.edit_model.specs.LiveRange.LivePoints.{labels_of}
use Rattle.edit_model.specs.PointOrder.PointOrder.{is_before}
use Rattle.edit_model.specs.State.{State}
use Rattle.edit_model.specs.Confined.{may_grow}
use Rattle.edit_model.specs.Edit.{changed, overrides_after}
use Rattle.edit_model.specs.Action.{Grow, acted, grown}
use Rattle.edit_parts.proofs.Points.{grown_same}
use Rattle.edit_doc.proofs.Attributed.{range_same}

unchanged : (s : State) → changed s s.trees s.points ≡ s
unfolding changed overrides_after
unchanged s = rw (range_same (is_before s.trees) s.points.selection) refl

pub still_grown : (s : State) (at : Point) → has_label (labels_of s.points) at.label ≡ false → acted (Grow at) s ≡ s
unfolding acted grown
still_grown s at off = subst (λ q. (if may_grow s at then changed s s.trees q else s) ≡ s) (grown_same s.points at off) (by (may_grow s at))
  where
    by : (b : Bool) → (if b then changed s s.trees s.points else s) ≡ s
    by true = unchanged s
    by false = refl
