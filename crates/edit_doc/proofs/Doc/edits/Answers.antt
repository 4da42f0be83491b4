use Rattle.std.proofs.Common.{◌∙◌}
use Rattle.edit_doc.proofs.Laid.{undo_edits}
use Rattle.edit_doc.proofs.Doc.edits.Goals as goal

pub returns : goal.returns
returns c = c.entry_len.ensures ∙ undo_edits c.self.inside _ c.self.view_is c.self.invariant
