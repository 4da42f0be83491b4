use Rattle.std.proofs.Common.{ap}
use Rattle.edit_model.specs.Action.{Flag, acted}
use Rattle.edit_doc.specs.Whole.{Whole, with_state}
use Rattle.edit_doc.proofs.Doc.set_flags.Goals as goal

pub returns : goal.returns
unfolding acted
returns c = ap (λ (w : Whole). with_state w (acted (Flag c.args.flags) w.state)) c.self.view_is
