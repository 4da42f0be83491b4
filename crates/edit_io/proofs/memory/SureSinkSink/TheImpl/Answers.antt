use Rattle.std.proofs.Common.{length, arith}
use Rattle.edit_io.proofs.Held.{sure_some, sure_bound, sure_bytes, sink_sure, sure_memory}
use Rattle.edit_io.proofs.memory.SureSinkSink.TheImpl.Goals as goal

pub write-tells : goal.write-tells
write-tells c =
    let old = c.args.self.now in
    let new = c.new.self.now in
    record {
      some = sure_some c.result (length c.args.piece.now) c.requires c.ensures.given;
      bound = sure_bound c.result (length c.args.piece.now) c.ensures.given;
      bytes = sure_bytes c.result old.taken.items new.taken.items c.args.piece.now c.ensures.given c.ensures.grown;
      kept = c.ensures.stays;
      counted = omega arith;
      failed = sink_sure c.result _ c.ensures.sure;
      memory = sure_memory c.result;
    }
