use Rattle.std.proofs.Common.{refl, sym, ◌∙◌}
use Rattle.edit_doc.proofs.Tails.{not_extracted, from_bears, at_possible, gives_extracted, gives_unextracted}
use Rattle.edit_doc.proofs.Doc.extract_tail.Goals as goal

pub returns-in_default-clause-gives : goal.returns-in_default-clause-gives
returns-in_default-clause-gives c =
    let a = c.args in
    gives_unextracted a.self.now.state a.from a.end.label a.target.label (not_extracted a.self.now.state a.from a.end.label a.target.label (c.in_default.ensures.absent.0 refl))

pub returns-then-not-may_extract-clause-gives : goal.returns-then-not-may_extract-clause-gives
returns-then-not-may_extract-clause-gives c =
    let a = c.args in
    gives_unextracted a.self.now.state a.from a.end.label a.target.label (sym c.may_extract.ensures ∙ c.if-not-may_extract.true)

pub extract_into-requires-clause-parent : goal.extract_into-requires-clause-parent
extract_into-requires-clause-parent c =
    let a = c.args in
    from_bears a.self.now.state a.from a.end.label a.target.label (sym c.may_extract.ensures ∙ c.if-not-may_extract.false)

pub extract_into-requires-clause-possible : goal.extract_into-requires-clause-possible
extract_into-requires-clause-possible c =
    let a = c.args in
    at_possible a.self.now.state c.valid.ensures.valid a.from a.end.label a.target.label (sym c.may_extract.ensures ∙ c.if-not-may_extract.false)

pub returns-clause-gives : goal.returns-clause-gives
returns-clause-gives c =
    let a = c.args in
    gives_extracted a.self.now.state c.valid.ensures.valid a.from a.end.label a.target.label (sym c.may_extract.ensures ∙ c.if-not-may_extract.false) c.extract_into.result c.extract_into.new.self.state c.extract_into.ensures.steps
