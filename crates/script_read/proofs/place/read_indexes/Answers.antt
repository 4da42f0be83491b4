use Rattle.std.proofs.Common.{Some, ap, sym, ◌∙◌}
use Rattle.script_read.proofs.Places.{Follows-more, Follows-bad, Follows-last, Follows-bad_last, shorter}
use Rattle.script_read.proofs.place.read_indexes.Goals as goal

pub returns-in_default-read_number : goal.returns-in_default-read_number
returns-in_default-read_number c =
    Follows-bad c.loop-digits.items.items c.in-Some.digits.now c.in-Some.more.now c.loop-digits.rest.now _ c.in-Some.ensures c.in_default-read_number.ensures c.loop-digits.invariant

pub loop-digits-smaller : goal.loop-digits-smaller
loop-digits-smaller c = shorter c.in-Some.digits.now c.in-Some.more.now c.loop-digits.rest.now c.in-Some.ensures

pub loop-digits-preserved : goal.loop-digits-preserved
loop-digits-preserved c =
    rw c.in_ok-push.ensures.items
    (Follows-more c.loop-digits.items.items c.in-Some.digits.now c.in-Some.more.now c.loop-digits.rest.now c.in-Some-read_number.index _ c.in-Some.ensures c.in-Some-read_number.ensures c.loop-digits.invariant)

pub returns-in_default-read_number-2 : goal.returns-in_default-read_number-2
returns-in_default-read_number-2 c =
    Follows-bad_last c.loop-digits.items.items c.loop-digits.rest.now _ c.in_default.ensures c.in_default-read_number-2.ensures c.loop-digits.invariant

pub returns : goal.returns
returns c =
    Follows-last c.loop-digits.items.items c.loop-digits.rest.now c.in-Some-read_number-2.last _ c.in_default.ensures c.in-Some-read_number-2.ensures c.loop-digits.invariant
    ∙ ap Some (sym c.in_ok-push-2.ensures.items ∙ sym c.from_vec.ensures)
