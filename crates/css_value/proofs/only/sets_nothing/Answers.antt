use Rattle.std.proofs.Common.{ap}
use Rattle.css_value.specs.DeclarationList.{names_of, declarations_in}
use Rattle.css_value.specs.OnlyGroup as names
use Rattle.css_value.proofs.Names.{none-in, some-in, none-test}
use Rattle.css_value.proofs.only.sets_nothing.Goals as goal

pub returns : goal.returns
returns c =
    none-test c.first_stated.result c.is_none.result (names.is_nothing (names_of (declarations_in c.args.text.now))) _ _ c.first_stated.ensures.stated c.is_none.ensures
    (λ none. ap (λ ds. names.is_nothing (names_of ds)) (none-in c.args.text.now none))
    (λ r some. some-in c.args.text.now _ _ some)
