use Rattle.std.proofs.Common.{sym, ap, ◌∙◌}
use Rattle.std.specs.Map.{values_of}
use Rattle.dom_model.specs.AttributeList.{value_of}
use Rattle.dom_model.proofs.AttributeLemmas.{value-at}
use Rattle.dom_model.proofs.attributes.Listing.get.Goals as goal

pub returns-in-Some : goal.returns-in-Some
returns-in-Some c =
    c.value_at.ensures
    ∙ sym (value-at c.args.name.now (values_of c.self.inside.rows.entries) c.in-Some.place c.self.invariant.0 c.in-Some.ensures)
    ∙ ap (λ list. value_of list c.args.name.now) c.self.view_is
