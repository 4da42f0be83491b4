use Rattle.std.proofs.Common.{sym, ◌∙◌}
use Rattle.edit_doc.proofs.Confining.{open_made, open_other}
use Rattle.edit_doc.proofs.Doc.is_open.Goals as goal

pub returns-then-is_made : goal.returns-then-is_made
returns-then-is_made c = c.if-is_made.true ∙ sym (open_made c.args.self.now c.args.node.label (sym c.is_made.ensures ∙ c.if-is_made.true))

pub returns-else-is_made : goal.returns-else-is_made
returns-else-is_made c = c.is_inside.ensures ∙ sym (open_other c.args.self.now c.args.node.label (sym c.is_made.ensures ∙ c.if-is_made.false))
