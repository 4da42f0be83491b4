use Rattle.std.proofs.Common.{arith}
use Rattle.std.proofs.KnownBytes.{Appends-nil}
use Rattle.edit_io.proofs.Told.{write_more}
use Rattle.edit_io.proofs.whole.write_all.Goals as goal

pub loop-at-init : goal.loop-at-init
loop-at-init g c = record { within = omega arith; taken = Appends-nil _; counted = omega arith }

pub loop-at-preserved : goal.loop-at-preserved
loop-at-preserved g c = record {
  within = omega (arith, c.in_ok-at.ensures.bound);
  taken = write_more _ _ _ _ _ _ c.loop-at.invariant.taken c.in_ok-at.ensures.bytes;
  counted = omega (arith, c.loop-at.invariant.counted, c.in_ok-at.ensures.counted);
}
