use Rattle.std.proofs.Common.{sym, ◌∙◌}
use Rattle.edit_doc.proofs.SeenNodes.{length_seen}
use Rattle.edit_doc.proofs.Doc.length.Goals as goal

pub returns : goal.returns
returns c = c.length.ensures ∙ sym (length_seen c.nodes.ensures c.args.node c.requires)
