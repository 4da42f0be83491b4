use Rattle.edit_doc.proofs.SeenNodes.{finds_next}
use Rattle.edit_doc.proofs.Doc.next.Goals as goal

pub returns : goal.returns
returns c = finds_next c.nodes.ensures c.args.node c.requires c.next.result c.next.ensures
