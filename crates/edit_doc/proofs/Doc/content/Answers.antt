use Rattle.std.proofs.Common.{◌∙◌}
use Rattle.edit_doc.proofs.SeenNodes.{content_seen}
use Rattle.edit_doc.proofs.Doc.content.Goals as goal

pub returns : goal.returns
returns c = content_seen c.nodes.ensures c.args.node c.requires ∙ c.content.ensures
