use Rattle.edit_query.proofs.Hosting.{within}
use Rattle.edit_query.proofs.inside.is_editable_within.Goals as goal

pub returns-then-inside : goal.returns-then-inside
returns-then-inside c =
    within c.args.doc.now.state.trees c.valid.ensures.valid.forest.distinct c.args.host.label c.args.node.label (c.requires.known c.if-inside.true)
