use Rattle.std.proofs.Common.{sym, subst}
use Rattle.dom_model.specs.AttributeMap.{IsNumbered, IsKnown}
use Rattle.dom_model.proofs.AttributeLemmas.{all-left}
use Rattle.dom_model.proofs.attributes.unnumber.Goals as goal

pub returns-in-Some : goal.returns-in-Some
returns-in-Some c = λ names apart known.
    subst (λ list. IsNumbered list names) (sym c.remove.ensures.entries)
    (all-left c.deref_mut.result.now.entries c.args.name.now names apart (subst (λ tree. IsNumbered tree.entries names) (sym c.deref_mut.ensures.value) (subst (λ numbers. IsKnown numbers names) c.in-Some.is known)))
