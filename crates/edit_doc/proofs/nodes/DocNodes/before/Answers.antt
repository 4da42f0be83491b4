use Rattle.edit_doc.proofs.Shown.{before_shown}
use Rattle.edit_doc.proofs.nodes.DocNodes.before.Goals as goal

pub returns : goal.returns
returns c = before_shown c.nodes.ensures c.args.a c.args.b c.requires.first_held c.requires.second_held c.before-first.result c.before-first.ensures
