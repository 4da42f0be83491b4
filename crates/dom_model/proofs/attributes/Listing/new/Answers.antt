use Rattle.dom_model.proofs.AttributeLemmas.{listing-none}
use Rattle.dom_model.proofs.attributes.Listing.new.Goals as goal

pub invariant_of-result : goal.invariant_of-result
invariant_of-result c = listing-none c.new.result.entries c.new.ensures.empty
