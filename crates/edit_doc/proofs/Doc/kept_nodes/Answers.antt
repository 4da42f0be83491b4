use Rattle.edit_doc.proofs.Inner.{closed_of}
use Rattle.edit_doc.proofs.KeptNodes.{kept_nodes}
use Rattle.edit_doc.proofs.Doc.kept_nodes.Goals as goal

pub returns : goal.returns
returns c = kept_nodes c.self.inside c.valid.ensures c.slotted.ensures (closed_of c.self.inside _ c.self.view_is c.requires.closed) c.self.invariant _ c.self.view_is
