use Rattle.std.proofs.Common.{sym, ◌∙◌}
use Rattle.edit_doc.proofs.Placing.{parent_kind, leaf_kind}
use Rattle.edit_doc.proofs.SeenNodes.{is_parent_seen}
use Rattle.edit_doc.proofs.Doc.is_parent.Goals as goal

pub returns-in-Document : goal.returns-in-Document
returns-in-Document c = sym (is_parent_seen c.nodes.ensures c.args.node c.requires ∙ (c.kind.ensures.parent ∙ parent_kind c.kind.result c.in-Document.is))

pub returns-in_default : goal.returns-in_default
returns-in_default c = sym (is_parent_seen c.nodes.ensures c.args.node c.requires ∙ (c.kind.ensures.parent ∙ leaf_kind c.kind.result c.in_default.not-Document c.in_default.not-Element))
