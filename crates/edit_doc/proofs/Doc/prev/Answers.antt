use Rattle.edit_doc.proofs.SeenNodes.{finds_prev}
use Rattle.edit_doc.proofs.Doc.prev.Goals as goal

pub returns : goal.returns
returns c = finds_prev c.nodes.ensures c.args.node c.requires c.prev.result c.prev.ensures
