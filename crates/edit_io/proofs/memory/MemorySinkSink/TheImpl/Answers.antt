use Rattle.std.proofs.Common.{ap, length}
use Rattle.edit_io.proofs.Held.{sink_some, sink_bound, sink_counted, sink_failed, sink_memory}
use Rattle.edit_io.proofs.memory.MemorySinkSink.TheImpl.Goals as goal

pub write-tells : goal.write-tells
write-tells c =
    let old = c.args.self.now in
    let new = c.new.self.now in
    let failing = ap (λ v. v.items) c.ensures.same.1 in
    record {
      some = sink_some c.result old.piece (length c.args.piece.now) old.some c.requires c.ensures.given;
      bound = sink_bound c.result old.piece (length c.args.piece.now) c.ensures.given;
      bytes = c.ensures.grown;
      kept = c.ensures.stays;
      counted = sink_counted c.result old.failing.items new.failing.items old.calls new.calls failing c.ensures.calls c.ensures.failed_calls c.ensures.memory_calls;
      failed = sink_failed c.result old.failing.items new.failing.items old.calls new.calls failing c.ensures.failed_calls c.ensures.fails;
      memory = sink_memory c.result old.failing.items new.failing.items old.calls new.calls failing c.ensures.memory_calls;
    }
