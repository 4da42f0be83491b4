use Rattle.edit_doc.proofs.Shown.{shown_valid}
use Rattle.edit_doc.proofs.nodes.DocNodes.valid.Goals as goal

pub returns : goal.returns
returns c = shown_valid c.nodes.ensures c.valid-2.ensures
