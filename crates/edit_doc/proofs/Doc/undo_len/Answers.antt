use Rattle.std.proofs.Common.{◌∙◌}
use Rattle.edit_doc.proofs.Laid.{undo_count}
use Rattle.edit_doc.proofs.Doc.undo_len.Goals as goal

pub returns : goal.returns
returns c = c.undo_len.ensures ∙ undo_count c.self.inside _ c.self.view_is c.self.invariant
