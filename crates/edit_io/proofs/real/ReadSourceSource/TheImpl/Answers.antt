use Rattle.edit_io.proofs.Passed.{passed_bytes, passed_kept, count_rises}
use Rattle.edit_io.proofs.real.ReadSourceSource.TheImpl.Goals as goal

pub read-tells : goal.read-tells
read-tells g c = record {
  bound = c.ensures.bound;
  bytes = passed_bytes _ _ c.result c.new.buf.now c.ensures.passed;
  end = c.ensures.end;
  kept = passed_kept _ _ c.result c.new.buf.now c.ensures.passed;
  counted = count_rises c.result _ _ c.ensures.same c.ensures.raised;
  failed = c.ensures.failed;
  amount = c.ensures.amount;
  same_amount = c.ensures.same_amount;
}
