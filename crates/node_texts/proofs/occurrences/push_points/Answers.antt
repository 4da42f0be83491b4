use Rattle.std.proofs.Common.{◌≡◌, ◌++◌, true, false, nat_eq, length, drop, sym, ap, ◌∙◌, arith, append_assoc}
use Rattle.std.specs.List.{starts_with}
use Rattle.std.proofs.lemmas.List.{take_rest, length-drop}
use Rattle.node_texts.specs.Occurrences.{points_at}
use Rattle.node_texts.proofs.Offsets.{found_here, not_here, some_wanted}
use Rattle.node_texts.proofs.occurrences.push_points.Goals as goal

pub loop-at-preserved-then-starts_with : goal.loop-at-preserved-then-starts_with
loop-at-preserved-then-starts_with c =
    let w = c.args.wanted.now in
    let cs = c.args.chars.now in
    let at = c.loop-at.at in
    let some = some_wanted (length w) (sym c.is_empty.ensures ∙ c.if-is_empty.false) in
    let here : starts_with nat_eq (drop at cs) w ≡ true = ap (λ xs. starts_with nat_eq xs w) (sym (take_rest cs at)) ∙ sym c.starts_with.ensures.value ∙ c.if-starts_with.true in
    let bound = rw (take_rest cs at, length-drop at cs) at (c.starts_with.ensures.bound c.if-starts_with.true) in
    let next = found_here w cs at c.loop-at-test.true some here in
    record {
      within = omega (arith, bound, c.loop-at-test.true);
      found = rw c.in_ok-push.ensures.items (append_assoc c.loop-at.points.items _ _ ∙ ap (λ xs. c.loop-at.points.items ++ points_at c.args.label xs) (sym next) ∙ c.loop-at.invariant.found);
    }

pub loop-at-preserved : goal.loop-at-preserved
loop-at-preserved c =
    let w = c.args.wanted.now in
    let cs = c.args.chars.now in
    let at = c.loop-at.at in
    let none : starts_with nat_eq (drop at cs) w ≡ false = ap (λ xs. starts_with nat_eq xs w) (sym (take_rest cs at)) ∙ sym c.starts_with.ensures.value ∙ c.if-starts_with.false in
    let next = not_here w cs at c.loop-at-test.true none in
    record { within = omega arith; found = ap (λ xs. c.loop-at.points.items ++ points_at c.args.label xs) (sym next) ∙ c.loop-at.invariant.found }
