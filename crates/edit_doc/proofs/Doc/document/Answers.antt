use Rattle.edit_doc.proofs.Stored.{document_held}
use Rattle.edit_doc.proofs.Doc.document.Goals as goal

pub returns-clause-held : goal.returns-clause-held
returns-clause-held c = document_held c.nodes.ensures _ c.document.ensures.label c.document.ensures.held
