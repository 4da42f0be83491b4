use Rattle.std.proofs.Common.{sym, ◌∙◌}
use Rattle.edit_doc.proofs.Confining.{editable_by, editable_none}
use Rattle.edit_doc.proofs.Doc.is_editable_for.Goals as goal

pub returns-in-Some : goal.returns-in-Some
returns-in-Some c = c.is_editable.ensures ∙ sym (editable_by c.host.ensures c.nodes.ensures c.args.node c.requires c.in-Some.host c.in-Some.is)

pub returns-in-None : goal.returns-in-None
returns-in-None c = sym (editable_none c.host.ensures c.args.node.label c.in-None.is)
