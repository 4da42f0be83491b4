use Rattle.std.proofs.Common.{sym, ◌∙◌}
use Rattle.edit_doc.proofs.Confining.{inside_host, inside_other, inside_none}
use Rattle.edit_doc.proofs.Doc.is_inside.Goals as goal
use Rattle.edit_doc.proofs.Doc.is_inside.Goals.{in_default-via-in-Some+else-host-node, in_default-via-in_default}

pub returns-in-Some : goal.returns-in-Some
returns-in-Some c = sym (inside_host c.host.ensures c.args.node.label c.in-Some.host c.in-Some.is c.if-host-node.true)

pub returns-in_default : goal.returns-in_default
returns-in_default c = c.is_editable_for.ensures ∙ sym (elim c.in_default.branch [
  | in_default-via-in-Some+else-host-node w ↦ inside_other c.host.ensures c.args.node.label w.in-Some.host w.in-Some.is w.if-host-node.false
  | in_default-via-in_default w ↦ inside_none c.host.ensures c.args.node.label w.in_default.is
])
