use Rattle.std.proofs.Common.{◌≡◌, None, sym, ◌∙◌, arith, length}
use Rattle.css_value.specs.DeclarationList.{value_of}
use Rattle.css_value.specs.DeclarationMap.{declarations_of}
use Rattle.css_value.proofs.Places.{by-order, placeless, placed-new, set-none, length-names}
use Rattle.css_value.proofs.declarations.declare.Goals as goal

pub returns-in-Some-clause-set : goal.returns-in-Some-clause-set
returns-in-Some-clause-set c =
    c.write.ensures.values c.args.name.items c.requires.distinct
    (c.requires.placed.1 c.args.name.items c.in-Some.place.now (sym (by-order c.args.name.items c.args.places.now.entries) ∙ sym c.in-Some.ensures.value))

pub returns-in_ok-push-in-None-clause-set : goal.returns-in_ok-push-in-None-clause-set
returns-in_ok-push-in-None-clause-set c =
    let name = c.args.name.items in
    let list = declarations_of c.args.list.now.items in
    let none : value_of list name ≡ None = placeless name c.args.places.now.entries list c.requires.placed (sym (by-order name c.args.places.now.entries) ∙ sym c.in-None.ensures.value) in
    c.in_ok-push-in-None.ensures.ok ∙ sym (set-none name c.args.value.items list none)

pub returns-in_ok-push-in-None-clause-placed : goal.returns-in_ok-push-in-None-clause-placed
returns-in_ok-push-in-None-clause-placed c =
    placed-new c.args.places.now.entries c.insert.new.self.entries c.in_ok-key-in-None.key c.len.result (declarations_of c.args.list.now.items) (declarations_of c.push.new.list.items) c.args.name.items c.args.value.items
    c.in_ok-insert-in-None.ensures.entries (c.in_ok-key-in-None.ensures.items ∙ c.as_slice.ensures.value)
    ((let at : c.len.result ≡ length c.args.list.now.items = omega (arith, c.len.ensures, c.args.list.now.ok) in at) ∙ sym (length-names c.args.list.now.items)) c.in_ok-push-in-None.ensures.ok c.requires.placed
