use Rattle.std.proofs.Common.{◌-◌, ap, min, vec_len, length, arith}
use Rattle.edit_io.proofs.Held.{source_bound, source_bytes, source_end, source_kept, counted, source_failed, source_amount}
use Rattle.edit_io.proofs.memory.MemorySourceSource.TheImpl.Goals as goal

pub read-tells : goal.read-tells
read-tells c =
    let old = c.args.self.now in
    let new = c.new.self.now in
    let most = min old.piece (length c.args.buf.now) in
    let left = vec_len old.bytes - old.at in
    let bytes = ap (λ v. v.items) c.ensures.same.0 in
    let failing = ap (λ v. v.items) c.ensures.same.2 in
    record {
      bound = source_bound c.result old.bytes.items c.args.buf.now c.new.buf.now old.at most left (omega (arith, old.bytes.ok)) c.ensures.given c.ensures.written;
      bytes = source_bytes c.result old.bytes.items new.bytes.items c.args.buf.now c.new.buf.now old.at new.at most left bytes (omega (arith, old.bytes.ok)) c.ensures.given c.ensures.moved c.ensures.written;
      end = source_end c.result old.bytes.items new.bytes.items old.at new.at most left bytes (omega (arith, old.bytes.ok)) (omega (arith, old.some, c.requires)) c.ensures.given c.ensures.moved;
      kept = source_kept c.result old.bytes.items new.bytes.items old.at new.at bytes c.ensures.stays;
      counted = counted old.failing.items new.failing.items old.calls new.calls failing c.ensures.calls;
      failed = source_failed c.result old.failing.items new.failing.items old.calls new.calls failing c.ensures.calls c.ensures.fails;
      amount = source_amount c.result old.at new.at c.ensures.moved (omega (arith, new.within, new.bytes.ok));
      same_amount = c.ensures.stays;
    }
