use Rattle.std.proofs.Common.{◌++◌, sym, ap, ◌∙◌, arith, length, ◌+◌, ◌-◌, ◌<◌}
use Rattle.std.specs.List.{flat_map}
use Rattle.std.proofs.lemmas.Option.{slice_get_within, get_or_from_slice_get}
use Rattle.page_write.specs.PointLines.{mark_line, mark_lines, IsIn}
use Rattle.page_write.proofs.Appending.{pieces-more}
use Rattle.page_write.proofs.Placing.{each_at, all_taken}
use Rattle.page_write.proofs.points.push_marks.Goals as goal

pub push_mark-requires : goal.push_mark-requires
push_mark-requires c = each_at (λ m. IsIn c.args.arena.now.trees m.1) c.args.points.now.marks c.loop-name.place (c.in-Some.name.now, c.in-Some.pair) c.requires.marks (sym c.in-Some.ensures)

pub loop-name-smaller : goal.loop-name-smaller
loop-name-smaller c =
    let within = slice_get_within c.args.points.now.marks c.loop-name.place (c.in-Some.name.now, c.in-Some.pair) (sym c.in-Some.ensures) in
    let smaller : length c.args.points.now.marks - (c.loop-name.place + 1) < length c.args.points.now.marks - c.loop-name.place = omega (arith, within) in
    smaller

pub loop-name-preserved : goal.loop-name-preserved
loop-name-preserved c =
    let e = sym c.in-Some.ensures in
    let within = slice_get_within c.args.points.now.marks c.loop-name.place (c.in-Some.name.now, c.in-Some.pair) e in
    record {
      within = omega (arith, within);
      written = pieces-more (mark_line c.args.arena.now.trees) c.args.points.now.marks c.loop-name.place (c.in-Some.name.now, c.in-Some.pair) _ _ _ within (sym (get_or_from_slice_get c.args.points.now.marks c.loop-name.place (c.in-Some.name.now, c.in-Some.pair) (c.in-Some.name.now, c.in-Some.pair) e)) c.loop-name.invariant.written c.in_ok-push_mark.ensures.ok;
    }

pub returns : goal.returns
unfolding mark_lines
returns c =
    let none = sym (rw c.in_default.is at c.mark_at.ensures) in
    record { ok = c.loop-name.invariant.written ∙ ap (λ xs. c.args.bytes.now.items ++ flat_map (mark_line c.args.arena.now.trees) xs) (all_taken c.args.points.now.marks c.loop-name.place c.loop-name.invariant.within none) }
