use Rattle.edit_io.proofs.Passed.{taken_bytes, taken_kept, count_rises, each_fault, no_memory}
use Rattle.edit_io.proofs.real.WriteSinkSink.TheImpl.Goals as goal

pub write-tells : goal.write-tells
write-tells g c = record {
  some = c.ensures.some;
  bound = c.ensures.bound;
  bytes = taken_bytes _ _ c.result c.args.piece.now c.ensures.passed;
  kept = taken_kept _ _ c.result c.args.piece.now c.ensures.passed;
  counted = count_rises c.result _ _ c.ensures.same c.ensures.raised;
  failed = each_fault c.result _ c.ensures.failed;
  memory = no_memory c.result _ c.ensures.no_memory;
}
