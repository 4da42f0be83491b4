use Rattle.std.proofs.Common.{◌∙◌}
use Rattle.std.proofs.lemmas.Result.{IfOk-weaker}
use Rattle.edit_doc.specs.declared.history.Way.TheVariants.{Forth}
use Rattle.edit_doc.proofs.Inner.{closed_of}
use Rattle.edit_doc.proofs.Telling.{undone_told}
use Rattle.edit_doc.proofs.Turnings.{fits}
use Rattle.edit_doc.proofs.Doc.undone_changes.Goals as goal

pub undone_changes-requires : goal.undone_changes-requires
undone_changes-requires c =
    fits c.self.inside _ c.self.view_is c.valid-2.ensures c.slotted.ensures c.valid.ensures (closed_of c.self.inside _ c.self.view_is c.requires.closed) c.self.invariant Forth

pub returns-clause-told : goal.returns-clause-told
returns-clause-told c =
    let closed = closed_of c.self.inside _ c.self.view_is c.requires.closed in
    IfOk-weaker c.undone_changes.result _ _
    (λ edits h. h ∙ undone_told c.self.inside c.valid-2.ensures closed c.self.invariant _ c.self.view_is)
    c.undone_changes.ensures.told
