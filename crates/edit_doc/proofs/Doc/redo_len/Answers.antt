use Rattle.std.proofs.Common.{◌∙◌}
use Rattle.edit_doc.proofs.Laid.{redo_count}
use Rattle.edit_doc.proofs.Doc.redo_len.Goals as goal

pub returns : goal.returns
returns c = c.redo_len.ensures ∙ redo_count c.self.inside _ c.self.view_is c.self.invariant
