use Rattle.edit_doc.proofs.Inner.{opened_of}
use Rattle.edit_doc.proofs.ToldSince.{leads_so_far}
use Rattle.edit_doc.proofs.Doc.changes_lead_so_far.Goals as goal

pub returns : goal.returns
returns c = leads_so_far c.self.inside (opened_of c.self.inside _ c.self.view_is c.valid.ensures c.self.invariant c.requires.«open») _ c.self.view_is
