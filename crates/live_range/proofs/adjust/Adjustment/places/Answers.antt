use Rattle.std.proofs.Common.{rules, IsSome, ◌∙◌, sym, subst, arith}
use Rattle.live_range.specs.PointsEdit.{named_nodes}
use Rattle.live_range.specs.Rows.{has_row}
use Rattle.live_range.specs.Adjustments.{edit_of}
use Rattle.live_range.proofs.Adjusting.{halfway_start, halfway_on, still_there, looked_fits, points_done, pair_done, marks_done}
use Rattle.live_range.proofs.RowCount.{count-less, count-none, rows_are_points}
use Rattle.live_range.proofs.adjust.Adjustment.places.Goals as goal

pub loop-row-init : goal.loop-row-init
loop-row-init g c = record {
  halfway = halfway_start c.args.nodes.now c.args.places.now c.requires.listed (edit_of c.args.self.now) c.rows-rest.result c.rows-rest.ensures;
  names = search rules;
  count = search rules;
  listed = c.requires.listed;
  counted = search rules;
}

pub point-requires : goal.point-requires
point-requires g c =
    looked_fits (edit_of c.args.self.now) c.args.places.now c.loop-row.places c.loop-row.rest c.loop-row.invariant.halfway c.in-Some.row c.in-Some.ensures.found.0 c.in-Some.ensures.found.1
    c.point_of.result c.unwrap-point.result c.unwrap-point.ensures c.point_of.ensures c.requires.fits

pub loop-row-preserved : goal.loop-row-preserved
loop-row-preserved g c =
    let e = edit_of c.args.self.now in
    let row = c.in-Some.row in
    record {
      halfway =
          halfway_on e c.args.places.now c.loop-row.places c.loop-row.rest c.loop-row.invariant.halfway row c.in-Some.ensures.found.0 c.in-Some.ensures.found.1
          c.move_point.new.places c.without-rest.result c.unwrap-point.result c.point.result (sym c.unwrap-point.ensures ∙ c.point_of.ensures) c.point.ensures c.without-rest.ensures.rows c.move_point.ensures.points;
      names = c.move_point.ensures.names ∙ c.loop-row.invariant.names;
      count = c.move_point.ensures.count ∙ c.loop-row.invariant.count;
      listed = c.move_point.ensures.listed;
      counted =
          let less = count-less (has_row c.loop-row.rest) (has_row c.without-rest.result) row c.in-Some.ensures.found.1 64 c.in-Some.ensures.found.0 c.without-rest.ensures.rows in
          omega (arith, less, c.tick.ensures, c.loop-row.invariant.counted);
    }

pub returns-clause-selection : goal.returns-clause-selection
returns-clause-selection g c =
    let e = edit_of c.args.self.now in
    pair_done e c.args.places.now c.loop-row.places c.requires.few
    (points_done e c.args.places.now c.loop-row.places c.loop-row.rest c.loop-row.invariant.halfway c.in_default.ensures.none) 0 (omega arith)

pub returns-clause-scratch : goal.returns-clause-scratch
returns-clause-scratch g c =
    let e = edit_of c.args.self.now in
    pair_done e c.args.places.now c.loop-row.places c.requires.few
    (points_done e c.args.places.now c.loop-row.places c.loop-row.rest c.loop-row.invariant.halfway c.in_default.ensures.none) 1 (omega arith)

pub returns-clause-marks : goal.returns-clause-marks
returns-clause-marks g c =
    let e = edit_of c.args.self.now in
    marks_done e c.args.places.now c.loop-row.places c.requires.few
    (points_done e c.args.places.now c.loop-row.places c.loop-row.rest c.loop-row.invariant.halfway c.in_default.ensures.none) c.loop-row.invariant.names

pub returns-clause-steps : goal.returns-clause-steps
returns-clause-steps g c =
    let all = rows_are_points (named_nodes (edit_of c.args.self.now)) c.args.nodes.now c.args.places.now c.rows-rest.result c.requires.listed c.requires.few c.rows-rest.ensures in
    let none = count-none (has_row c.loop-row.rest) 64 c.in_default.ensures.none in
    omega (arith, all, none, c.loop-row.invariant.counted)

pub unwrap-point-requires : goal.unwrap-point-requires
unwrap-point-requires g c =
    subst IsSome (sym c.point_of.ensures)
    (still_there (edit_of c.args.self.now) c.args.places.now c.loop-row.places c.loop-row.rest c.loop-row.invariant.halfway c.in-Some.row c.in-Some.ensures.found.0 c.in-Some.ensures.found.1)
