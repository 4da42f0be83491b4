use Rattle.std.proofs.Common.{sym, ◌∙◌}
use Rattle.std.proofs.lemmas.Bool.{and_parts}
use Rattle.std.proofs.lemmas.Result.{err_from_is_err_and}
use Rattle.step_text.specs.Applying.{labelled}
use Rattle.step_text.specs.Planning.{comes_from, line_to}
use Rattle.step_text.proofs.Fitting.{exit, misplaced, placed, placed_too_deep, unplaced}
use Rattle.step_text.proofs.Levels.{none_within, placed_low}
use Rattle.step_text.proofs.apply.placement.Goals as goal

pub returns-in_err-at-clause-plans : goal.returns-in_err-at-clause-plans
returns-in_err-at-clause-plans c =
    let a = c.args in
    let p = err_from_is_err_and c.from_residual.result c.from_residual.ensures.1 in
    exit (line_to a.origin a.label a.parent a.before) a.arena.now c.from_residual.result p.0 p.1 (p.2 ∙ c.in_err-at.ensures.absent)
    (unplaced a.label a.parent a.before (labelled a.arena.now) a.origin (sym c.in_err-at.ensures.there))

pub returns-then-not-may_place-clause-plans : goal.returns-then-not-may_place-clause-plans
returns-then-not-may_place-clause-plans c =
    let a = c.args in
    let found = c.in_ok-at.ensures in
    misplaced a.origin a.arena.now c.valid.ensures c.slotted.ensures a.label a.parent a.before c.in_ok-at.at found.found (sym found.there)
    (sym c.may_place.ensures ∙ c.if-not-may_place.true)

pub returns-then-not-has_room_under-clause-plans : goal.returns-then-not-has_room_under-clause-plans
returns-then-not-has_room_under-clause-plans c =
    let a = c.args in
    let found = c.in_ok-at.ensures in
    placed_too_deep a.origin a.arena.now c.valid.ensures c.slotted.ensures a.label a.parent a.before c.in_ok-at.at found.found (sym found.there)
    (sym c.may_place.ensures ∙ c.if-not-may_place.false) (sym c.has_room_under.ensures.room ∙ c.if-not-has_room_under.true)

pub returns-clause-plans : goal.returns-clause-plans
returns-clause-plans c =
    let a = c.args in
    let found = c.in_ok-at.ensures in
    let fits = placed a.origin a.arena.now c.valid.ensures c.slotted.ensures a.label a.parent a.before c.in_ok-at.at found.found (sym found.there)
    (sym c.may_place.ensures ∙ c.if-not-may_place.false) (sym c.has_room_under.ensures.room ∙ c.if-not-has_room_under.false) in
    rw c.step_to.ensures fits

pub returns-in_err-at-clause-levels : goal.returns-in_err-at-clause-levels
returns-in_err-at-clause-levels c =
    let p = err_from_is_err_and c.from_residual.result c.from_residual.ensures.1 in
    none_within c.from_residual.result p.0 c.args.arena.now.trees c.args.room.now.levels p.1 c.requires

pub returns-clause-levels : goal.returns-clause-levels
returns-clause-levels c =
    let a = c.args in
    let may = sym c.may_place.ensures ∙ c.if-not-may_place.false in
    let room = c.has_room_under.ensures in
    let low = placed_low a.arena.now c.valid.ensures a.origin c.in_ok-at.at c.has_room_under.new.room.levels (and_parts (comes_from a.origin a.arena.now.trees c.in_ok-at.at.node.label) _ may).0 room.bound (room.reach c.if-not-has_room_under.false) in
    rw c.step_to.ensures low
