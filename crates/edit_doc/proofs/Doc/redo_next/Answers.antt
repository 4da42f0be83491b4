use Rattle.std.proofs.Common.{ap, ◌∙◌}
use Rattle.edit_doc.specs.Logged.{first_logged}
use Rattle.edit_doc.specs.Whole.{Whole}
use Rattle.edit_doc.proofs.LoggedDocs.{next_listed}
use Rattle.edit_doc.proofs.Doc.redo_next.Goals as goal

pub returns-clause-read : goal.returns-clause-read
returns-clause-read g c =
    let last = c.in_ok-edits.ensures.read ∙ ap (λ (w : Whole). first_logged w.history.undo) c.redo.ensures.doc in
    next_listed c.args.self.now.history c.args.before.items _ _ _ c.requires.more c.in_ok-made.ensures last c.in_ok-push.ensures.items
