use Rattle.std.proofs.Common.{◌≡◌, None, sym, ap, subst, ◌∙◌, is_some}
use Rattle.std.specs.Map.{values_of}
use Rattle.dom_model.specs.AttributeList.{value_of, unset_in}
use Rattle.dom_model.proofs.AttributeLemmas.{listing-taken, unset-at, unset-none, there}
use Rattle.dom_model.proofs.attributes.Listing.take.Goals as goal

pub invariant_of-self : goal.invariant_of-self
invariant_of-self c =
    listing-taken c.self.inside.rows.entries c.take.new.rows.entries c.self.inside.next c.self.inside.numbers c.unnumber.new.numbers c.in-Some.place c.args.name.now c.take.ensures.left c.in-Some.ensures c.unnumber.ensures c.self.invariant

pub returns-in-None-clause-left : goal.returns-in-None-clause-left
returns-in-None-clause-left c =
    let name = c.args.name.now in
    let none : value_of c.args.self.now name ≡ None = subst (λ list. value_of list name ≡ None) c.self.view_is c.in-None.ensures in
    sym (unset-none name c.args.self.now none)

pub returns-in-Some-clause-was : goal.returns-in-Some-clause-was
returns-in-Some-clause-was c =
    sym (ap (λ list. is_some (value_of list c.args.name.now)) (sym c.self.view_is) ∙ there c.args.name.now (values_of c.self.inside.rows.entries) c.in-Some.place c.in-Some.ensures)

pub returns-in-Some-clause-left : goal.returns-in-Some-clause-left
returns-in-Some-clause-left c =
    ap values_of c.take.ensures.left
    ∙ unset-at c.args.name.now c.self.inside.rows.entries c.in-Some.place c.self.invariant.0 c.in-Some.ensures
    ∙ ap (λ list. unset_in list c.args.name.now) c.self.view_is
