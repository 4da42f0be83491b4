use Rattle.std.proofs.Common.{sym, subst, ◌∙◌}
use Rattle.std.specs.Map.{values_of}
use Rattle.dom_model.specs.AttributeList.{names_of}
use Rattle.dom_model.specs.AttributeMap.{IsNumbered, IsKnown}
use Rattle.dom_model.proofs.AttributeLemmas.{by-order, unnumbered}
use Rattle.dom_model.proofs.attributes.place_of.Goals as goal

pub returns-in-None-get : goal.returns-in-None-get
returns-in-None-get c =
    let list = values_of c.args.rows.now.entries in
    let name = c.args.name.now in
    let numbers = c.deref.result.now.entries in
    unnumbered name numbers list
    (subst (λ tree. IsNumbered tree.entries (names_of list)) (sym c.deref.ensures) (subst (λ known. IsKnown known (names_of list)) c.in-Some.is c.requires))
    (sym (by-order name numbers) ∙ sym c.in-None-get.ensures.value)
