use Rattle.std.proofs.Common.{◌≡◌, ◌<◌, refl, sym, true≢false, arith, length}
use Rattle.css_value.specs.DeclarationList.{set_in}
use Rattle.css_value.specs.DeclarationMap.{declarations_of}
use Rattle.css_value.proofs.Places.{names-written, set-at, nameless, held-at}
use Rattle.css_value.proofs.declarations.write.Goals as goal

pub returns-in-Some-clause-names : goal.returns-in-Some-clause-names
returns-in-Some-clause-names c =
    let low : c.args.place < length c.args.list.now.items = omega (arith, c.in-Some.ensures.variant.0 refl, c.args.list.now.ok) in
    names-written c.args.list.now.items c.args.place c.in-Some.pair.now c.args.value (held-at c.args.list.now.items c.args.place c.in-Some.pair.now low (sym c.in-Some.ensures.value))

pub returns-in-Some-clause-values : goal.returns-in-Some-clause-values
returns-in-Some-clause-values c = λ name distinct at.
    let low : c.args.place < length c.args.list.now.items = omega (arith, c.in-Some.ensures.variant.0 refl, c.args.list.now.ok) in
    set-at name c.args.value c.args.list.now.items c.args.place c.in-Some.pair.now (held-at c.args.list.now.items c.args.place c.in-Some.pair.now low (sym c.in-Some.ensures.value)) distinct at

pub returns-in_default-clause-values : goal.returns-in_default-clause-values
returns-in_default-clause-values c = λ name distinct at.
    nameless c.args.list.now.items c.args.place name (λ low. true≢false (sym (c.in_default.ensures.variant.1 (omega (arith, low, c.args.list.now.ok))))) at
    (declarations_of c.args.list.now.items ≡ set_in (declarations_of c.args.list.now.items) name c.args.value.items)
