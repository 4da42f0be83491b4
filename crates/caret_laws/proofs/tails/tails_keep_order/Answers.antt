use Rattle.caret_laws.proofs.TailOrder.{tails_ordered}
use Rattle.caret_laws.proofs.tails.tails_keep_order.Goals as goal

pub returns : goal.returns
returns c = λ s from end target is may next empty none amid. tails_ordered s from end target is may next empty none amid
