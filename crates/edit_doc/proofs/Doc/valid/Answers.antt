use Rattle.edit_doc.proofs.Stored.{is_doc}
use Rattle.edit_doc.proofs.Doc.valid.Goals as goal

pub returns : goal.returns
returns c = is_doc c.self.inside c.valid.ensures c.self.invariant c.valid-2.ensures.log _ c.self.view_is
