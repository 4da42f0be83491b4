use Rattle.std.proofs.Common.{◌∙◌}
use Rattle.std.proofs.lemmas.Result.{IfOk-weaker}
use Rattle.edit_doc.specs.declared.history.Way.TheVariants.{Back}
use Rattle.edit_doc.proofs.Inner.{closed_of}
use Rattle.edit_doc.proofs.LoggedEdits.{last_logged}
use Rattle.edit_doc.proofs.Turnings.{fits}
use Rattle.edit_doc.proofs.Doc.last_edits.Goals as goal

pub last_edits-requires-clause-fit : goal.last_edits-requires-clause-fit
last_edits-requires-clause-fit c =
    fits c.self.inside _ c.self.view_is c.valid-2.ensures c.slotted.ensures c.valid.ensures (closed_of c.self.inside _ c.self.view_is c.requires) c.self.invariant Back

pub returns-clause-read : goal.returns-clause-read
returns-clause-read c =
    let closed = closed_of c.self.inside _ c.self.view_is c.requires in
    IfOk-weaker c.last_edits.result _ _
    (λ edits h. h ∙ last_logged c.self.inside c.valid-2.ensures closed c.self.invariant _ c.self.view_is)
    c.last_edits.ensures.read
