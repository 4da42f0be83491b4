use Rattle.std.proofs.Common.{◌-◌, length, arith}
use Rattle.edit_io.proofs.Held.{source_bound, source_bytes, source_end, source_amount, sure}
use Rattle.edit_io.proofs.memory.SliceSourceSource.TheImpl.Goals as goal

pub read-tells : goal.read-tells
read-tells g c =
    let old = c.args.self.now in
    let new = c.new.self.now in
    let bytes = old.bytes.now in
    let most = length c.args.buf.now in
    let left = length bytes - old.at in
    record {
      bound = source_bound c.result bytes c.args.buf.now c.new.buf.now old.at most left (omega arith) c.ensures.given c.ensures.written;
      bytes = source_bytes c.result bytes new.bytes.now c.args.buf.now c.new.buf.now old.at new.at most left c.ensures.same (omega arith) c.ensures.given c.ensures.moved c.ensures.written;
      end = source_end c.result bytes new.bytes.now old.at new.at most left c.ensures.same (omega arith) c.requires c.ensures.given c.ensures.moved;
      kept = sure c.result _ c.ensures.sure;
      counted = omega arith;
      failed = sure c.result _ c.ensures.sure;
      amount = source_amount c.result old.at new.at c.ensures.moved (omega (arith, c.ensures.fits));
      same_amount = sure c.result _ c.ensures.sure;
    }
