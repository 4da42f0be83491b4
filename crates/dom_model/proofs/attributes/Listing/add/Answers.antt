use Rattle.std.proofs.Common.{◌≡◌, None, sym, ap, subst, ◌∙◌, [], ◌∷◌}
use Rattle.std.specs.Map.{values_of}
use Rattle.dom_model.specs.AttributeList.{value_of, set_in, names_of}
use Rattle.dom_model.specs.AttributeMap.{IsKnown}
use Rattle.dom_model.proofs.AttributeLemmas.{listing-added, values-added}
use Rattle.dom_model.proofs.attributes.Listing.add.Goals as goal

pub invariant_of-self-2 : goal.invariant_of-self-2
invariant_of-self-2 c =
    let rows = c.self.inside.rows.entries in
    let none : value_of (values_of rows) c.args.name ≡ None = subst (λ list. value_of list c.args.name ≡ None) (sym c.self.view_is) c.requires in
    listing-added rows c.push.new.rows.entries c.self.inside.next c.number.new.numbers c.args.name c.args.value c.in_ok-push.ensures.ok none c.self.invariant.0 c.self.invariant.1
    (c.in_ok-number.ensures.kept (names_of (values_of rows)) c.number_names.ensures)
    (subst (λ name. IsKnown c.number.new.numbers (name ∷ [])) c.as_slice.ensures c.in_ok-number.ensures.own)

pub returns-clause-ok : goal.returns-clause-ok
returns-clause-ok c =
    let rows = c.self.inside.rows.entries in
    let none : value_of (values_of rows) c.args.name ≡ None = subst (λ list. value_of list c.args.name ≡ None) (sym c.self.view_is) c.requires in
    ap values_of c.in_ok-push.ensures.ok
    ∙ values-added c.args.name c.args.value rows c.self.inside.next none
    ∙ ap (λ list. set_in list c.args.name c.args.value) c.self.view_is
