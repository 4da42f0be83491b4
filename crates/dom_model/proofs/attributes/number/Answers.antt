use Rattle.std.proofs.Common.{sym, subst}
use Rattle.dom_model.specs.AttributeMap.{IsNumbered, IsKnown}
use Rattle.dom_model.proofs.AttributeLemmas.{own-known, all-kept}
use Rattle.dom_model.proofs.attributes.number.Goals as goal

pub returns-in_ok-insert-clause-own : goal.returns-in_ok-insert-clause-own
returns-in_ok-insert-clause-own c =
    (own-known c.deref_mut.result.now.entries c.insert.new.self.entries c.in_ok-name.name c.args.number c.args.name.now c.in_ok-insert.ensures.entries c.in_ok-name.ensures.items, tt)

pub returns-in_ok-insert-clause-kept : goal.returns-in_ok-insert-clause-kept
returns-in_ok-insert-clause-kept c = λ names known.
    subst (λ list. IsNumbered list names) (sym c.in_ok-insert.ensures.entries)
    (all-kept c.deref_mut.result.now.entries c.in_ok-name.name c.args.number names (subst (λ tree. IsNumbered tree.entries names) (sym c.deref_mut.ensures.value) (subst (λ numbers. IsKnown numbers names) c.in-Some.is known)))
