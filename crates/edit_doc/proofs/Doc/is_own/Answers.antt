use Rattle.std.proofs.Common.{sym, ◌∙◌}
use Rattle.edit_doc.proofs.Confining.{own_made, own_other}
use Rattle.edit_doc.proofs.Doc.is_own.Goals as goal

pub returns-then-is_made : goal.returns-then-is_made
returns-then-is_made c = c.if-is_made.true ∙ sym (own_made c.args.self.now c.args.node.label (sym c.is_made.ensures ∙ c.if-is_made.true))

pub returns-else-is_made : goal.returns-else-is_made
returns-else-is_made c = c.is_editable_for.ensures ∙ sym (own_other c.args.self.now c.args.node.label (sym c.is_made.ensures ∙ c.if-is_made.false))
