use Rattle.std.proofs.Common.{◌≡◌, Some, None, sym, subst, ◌∙◌, MatchOption, slice_get}
use Rattle.css_value.specs.DeclarationList.{value_of, names_of}
use Rattle.css_value.specs.DeclarationMap.{declarations_of}
use Rattle.css_value.proofs.Places.{set-none}
use Rattle.css_value.proofs.declarations.put.Goals as goal

pub returns-in_ok-push-in-None-clause-ok : goal.returns-in_ok-push-in-None-clause-ok
returns-in_ok-push-in-None-clause-ok c =
    let name = c.args.name.items in
    let list = declarations_of c.args.list.now.items in
    let none : value_of list name ≡ None = subst (λ place. MatchOption place (value_of list name ≡ None) (λ i. slice_get (names_of list) i ≡ Some name)) c.in-None.is c.requires.place in
    c.in_ok-push-in-None.ensures.ok ∙ sym (set-none name c.args.value.items list none)
