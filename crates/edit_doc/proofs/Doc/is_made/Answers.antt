use Rattle.edit_doc.proofs.Confining.{made_by}
use Rattle.edit_doc.proofs.Doc.is_made.Goals as goal

pub returns : goal.returns
returns c = made_by c.self.inside _ c.self.view_is c.args.node.label
