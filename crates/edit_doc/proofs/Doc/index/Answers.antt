use Rattle.std.proofs.Common.{sym, ◌∙◌}
use Rattle.edit_doc.proofs.SeenNodes.{index_seen}
use Rattle.edit_doc.proofs.Doc.index.Goals as goal

pub returns : goal.returns
returns c = c.index.ensures ∙ sym (index_seen c.nodes.ensures c.args.node c.requires)
