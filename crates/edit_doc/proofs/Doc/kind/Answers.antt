use Rattle.std.proofs.Common.{◌∙◌}
use Rattle.edit_doc.proofs.SeenNodes.{kind_seen}
use Rattle.edit_doc.proofs.Doc.kind.Goals as goal

pub returns : goal.returns
returns c = kind_seen c.nodes.ensures c.args.node c.requires ∙ c.kind.ensures.kind
