-- Whether the active range changes is told alike by the arena's forest and by what is seen of it.
use Rattle.std.proofs.Common.{◌≡◌, ℕ, ◌<◌, Bool, true, cond, eqb, Option, Some, None, refl, sym, ap, ◌∙◌, arith}
use Rattle.std.specs.Prelude.{IfSome, if◌then◌else◌}
use Rattle.edit_model.specs.DomModel.declared.Content.{Content}
use Rattle.edit_model.specs.DomModel.Forest.{Forest, count_of, IsDistinct}
use Rattle.edit_model.specs.DomModel.Pruned.{pruned}
use Rattle.edit_model.proofs.DomModel.Totals.{total-without}
use Rattle.edit_model.specs.LiveRange.declared.places.Point.{Point}
use Rattle.edit_model.specs.LiveRange.declared.places.Pair.{Pair}
use Rattle.edit_model.specs.LiveRange.LivePoints.{LivePoints}
use Rattle.edit_model.specs.LiveRange.ActiveRange.{range_changed}
use Rattle.edit_model.specs.PointOrder.PointOrder.{is_before, is_placed}
use Rattle.edit_model.specs.State.{State}
use Rattle.edit_model.specs.Edit.{overrides_after}
use Rattle.edit_model.specs.Valid.{IsPlaced, IsPlacedPair}
use Rattle.edit_model.specs.Overrides.{no_overrides}
use Rattle.edit_model.proofs.Points.{placed_is}
use Rattle.edit_parts.specs.Following.{unset_if_range_changed}
use Rattle.edit_doc.proofs.Ordered.{before-detached}

-- a point of what is left stands at a node that is left
placed_detached : (f : Forest Content) (p : Point) → is_placed f p ≡ true → 0 < count_of f p.label
placed_detached f p h = (let inside = (placed_is f p h).inside in omega (arith, inside, total-without (λ m _. cond (eqb m p.label) 1 0) f 0))

module _ (k : ℕ → Bool) where
  pair_order : (f : Forest Content) (p : Pair) → IsDistinct f → IsPlacedPair (pruned k f) p → is_before (pruned k f) p.focus p.anchor ≡ is_before f p.focus p.anchor
  pair_order f p once h = before-detached k f once p.focus p.anchor (placed_detached (pruned k f) p.focus h.focus) (placed_detached (pruned k f) p.anchor h.anchor)

  pub range_seen : (f g : Forest Content) (o u : Option Pair) → IsDistinct f → IsDistinct g → IfSome o (IsPlacedPair (pruned k f)) → IfSome u (IsPlacedPair (pruned k g)) → range_changed (is_before (pruned k f)) (is_before (pruned k g)) o u ≡ range_changed (is_before f) (is_before g) o u
  range_seen f g None None once once' h h' = refl
  range_seen f g None (Some q) once once' h h' = refl
  range_seen f g (Some p) None once once' h h' = refl
  range_seen f g (Some p) (Some q) once once' h h' =
      let a = pair_order f p once h in
      let b = pair_order g q once' h' in
      λ i. range_changed (λ _ _. a i) (λ _ _. b i) (Some p) (Some q)

  -- what `unset_overrides_if_range_changed` leaves is what the definitions say of what is seen
  pub settled_seen : (f g : Forest Content) (s : State) (after : LivePoints) → IsDistinct f → IsDistinct g → s.trees ≡ pruned k f → IsPlaced (pruned k f) s.points → IsPlaced (pruned k g) after → unset_if_range_changed f s.points g after s.overrides ≡ overrides_after s (pruned k g) after
  unfolding overrides_after
  settled_seen f g s after once once' trees was is =
      ap (λ b. if b then no_overrides else s.overrides)
      (sym (range_seen f g s.points.selection after.selection once once' was.selection is.selection)
      ∙ ap (λ t. range_changed (is_before t) (is_before (pruned k g)) s.points.selection after.selection) (sym trees))
