use Rattle.edit_doc.proofs.Inner.{closed_of}
use Rattle.edit_doc.proofs.Telling.{last_leads, undone_leads}
use Rattle.edit_doc.proofs.Doc.changes_lead.Goals as goal

pub returns-clause-made : goal.returns-clause-made
returns-clause-made c = last_leads c.self.inside c.valid.ensures (closed_of c.self.inside _ c.self.view_is c.requires.closed) c.self.invariant _ c.self.view_is

pub returns-clause-undone : goal.returns-clause-undone
returns-clause-undone c = undone_leads c.self.inside c.valid.ensures (closed_of c.self.inside _ c.self.view_is c.requires.closed) c.self.invariant _ c.self.view_is
