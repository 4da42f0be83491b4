use Rattle.edit_doc.proofs.SeenNodes.{shows_of}
use Rattle.edit_doc.proofs.Doc.nodes.Goals as goal

pub returns : goal.returns
returns c = shows_of c.self.inside c.valid.ensures _ c.self.view_is
