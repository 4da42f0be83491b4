use Rattle.std.proofs.Common.{◌≡◌, true, subst, slice_get}
use Rattle.std.specs.Map.{values_of}
use Rattle.dom_model.specs.AttributeMap.{is_named}
use Rattle.dom_model.proofs.AttributeLemmas.{listing-written}
use Rattle.dom_model.proofs.attributes.Listing.put.Goals as goal

pub invariant_of-self : goal.invariant_of-self
invariant_of-self c =
    let rows = c.self.inside.rows.entries in
    let place = c.in-Some.place in
    let is : is_named c.args.name (slice_get (values_of rows) place) ≡ true = subst (λ name. is_named name (slice_get (values_of rows) place) ≡ true) c.as_slice.ensures c.in-Some.ensures in
    listing-written rows c.write.new.rows.entries c.self.inside.next c.self.inside.numbers place c.args.name c.args.value c.write.ensures.numbers (c.write.ensures.values c.args.name c.self.invariant.0 is) is c.self.invariant
