use Rattle.inline_value.proofs.EditQuery.Hosting.{found_inside}
use Rattle.text_insertion.proofs.containers.up_to_entry.Goals as goal

pub if_editable-requires-clause-known : goal.if_editable-requires-clause-known
if_editable-requires-clause-known c = λ on.
    found_inside c.args.doc.now.state c.valid.ensures.valid.forest.distinct c.args.node.label (c.requires.known on) c.parent.result c.parent.ensures.is
