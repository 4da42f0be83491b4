use Rattle.edit_doc.proofs.Stored.{host_is}
use Rattle.edit_doc.proofs.Doc.host.Goals as goal

pub returns : goal.returns
returns c = host_is c.self.inside c.self.invariant _ c.self.view_is
