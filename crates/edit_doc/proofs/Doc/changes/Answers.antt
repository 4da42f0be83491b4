use Rattle.std.proofs.Common.{◌∙◌, arith}
use Rattle.std.proofs.lemmas.Result.{IfOk-weaker}
use Rattle.edit_doc.specs.declared.history.Way.TheVariants.{Back}
use Rattle.edit_doc.proofs.Inner.{closed_of}
use Rattle.edit_doc.proofs.Telling.{last_told}
use Rattle.edit_doc.proofs.Turnings.{fits, edits}
use Rattle.edit_doc.proofs.Doc.changes.Goals as goal

pub changes-requires-clause-within : goal.changes-requires-clause-within
changes-requires-clause-within c =
    let closed = closed_of c.self.inside _ c.self.view_is c.requires.closed in
    let many = edits c.self.inside _ c.self.view_is c.valid-2.ensures c.slotted.ensures c.valid.ensures closed c.self.invariant Back in
    let within = c.requires.within in
    omega (arith, many, within)

pub changes-requires-clause-fit : goal.changes-requires-clause-fit
changes-requires-clause-fit c =
    fits c.self.inside _ c.self.view_is c.valid-2.ensures c.slotted.ensures c.valid.ensures (closed_of c.self.inside _ c.self.view_is c.requires.closed) c.self.invariant Back

pub returns-clause-told : goal.returns-clause-told
returns-clause-told c =
    let closed = closed_of c.self.inside _ c.self.view_is c.requires.closed in
    IfOk-weaker c.changes.result _ _
    (λ edits h. h ∙ last_told c.self.inside c.valid-2.ensures closed c.self.invariant _ c.self.view_is c.args.kept)
    c.changes.ensures.told
