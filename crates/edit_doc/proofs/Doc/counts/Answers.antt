use Rattle.edit_doc.proofs.Stored.{nodes_are, chars_are, depth_is}
use Rattle.edit_doc.proofs.Doc.counts.Goals as goal

pub returns-clause-nodes : goal.returns-clause-nodes
returns-clause-nodes c = nodes_are c.self.inside c.valid.ensures c.self.invariant _ c.self.view_is

pub returns-clause-chars : goal.returns-clause-chars
returns-clause-chars c = chars_are c.self.inside c.valid.ensures c.self.invariant _ c.self.view_is

pub returns-clause-depth : goal.returns-clause-depth
returns-clause-depth c = depth_is c.self.inside c.valid.ensures c.self.invariant _ c.self.view_is
