use Rattle.edit_doc.proofs.SeenNodes.{finds_last}
use Rattle.edit_doc.proofs.Doc.last_child.Goals as goal

pub returns : goal.returns
returns c = finds_last c.nodes.ensures c.args.node c.requires c.last_child.result c.last_child.ensures
