use Rattle.edit_doc.proofs.SeenNodes.{finds_first}
use Rattle.edit_doc.proofs.Doc.first_child.Goals as goal

pub returns : goal.returns
returns c = finds_first c.nodes.ensures c.args.node c.requires c.first_child.result c.first_child.ensures
