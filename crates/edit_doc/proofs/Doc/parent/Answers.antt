use Rattle.edit_doc.proofs.SeenNodes.{finds_parent}
use Rattle.edit_doc.proofs.Doc.parent.Goals as goal

pub returns : goal.returns
returns c = finds_parent c.nodes.ensures c.args.node c.requires c.parent.result c.parent.ensures
