use Rattle.edit_doc.proofs.Shown.{within_shown}
use Rattle.edit_doc.proofs.nodes.DocNodes.is_within.Goals as goal

pub returns : goal.returns
returns c = within_shown c.nodes.ensures c.args.top c.requires.top_held c.is_within.result c.args.node.label c.is_within.ensures
