use Rattle.std.proofs.Common.{sym, ◌∙◌}
use Rattle.edit_doc.proofs.SeenNodes.{editable_seen}
use Rattle.edit_doc.proofs.nodes.DocNodes.is_editable.Goals as goal

pub returns : goal.returns
returns c = c.is_editable.ensures ∙ sym (editable_seen c.nodes.ensures c.args.node c.requires.node_held c.args.host.label)
