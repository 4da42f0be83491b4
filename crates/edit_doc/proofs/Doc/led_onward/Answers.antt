use Rattle.edit_doc.proofs.Inner.{closed_of}
use Rattle.edit_doc.proofs.Leading.{has_led}
use Rattle.edit_doc.proofs.Doc.led_onward.Goals as goal

pub returns : goal.returns
returns c = has_led c.self.inside c.valid.ensures (closed_of c.self.inside _ c.self.view_is c.requires.closed) c.self.invariant _ c.self.view_is
