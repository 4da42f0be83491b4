use Rattle.std.proofs.Common.{◌≡◌, Option, Some, None, IfSome, subst}
use Rattle.edit_model.specs.LiveRange.declared.places.Pair.{Pair}
use Rattle.edit_model.specs.Valid.{IsPlacedPair}
use Rattle.edit_parts.proofs.Ranges.{placed_here}
use Rattle.edit_parts.proofs.overrides.active_range.Goals as goal

taken : (P : Pair → Type 0) (o : Option Pair) (p : Pair) → Some p ≡ o → IfSome o P → P p
taken P None p e h = absurd (cc)
taken P (Some q) p e h = (let is : q ≡ p = (let e' = e in cc) in subst P is h)

pub comes_before-requires-clause-point_there : goal.comes_before-requires-clause-point_there
comes_before-requires-clause-point_there c =
    let placed = taken (IsPlacedPair c.args.arena.now.trees) c.args.points.now.selection c.in_ok-pair.pair c.in_ok-pair.ensures c.requires in
    placed_here c.args.arena.now.trees c.in_ok-pair.pair.focus placed.focus

pub comes_before-requires-clause-other_there : goal.comes_before-requires-clause-other_there
comes_before-requires-clause-other_there c =
    let placed = taken (IsPlacedPair c.args.arena.now.trees) c.args.points.now.selection c.in_ok-pair.pair c.in_ok-pair.ensures c.requires in
    placed_here c.args.arena.now.trees c.in_ok-pair.pair.anchor placed.anchor
