use Rattle.std.proofs.Common.{sym, ap, ◌∙◌}
use Rattle.css_value.specs.StyleText as spec
use Rattle.css_value.specs.DeclarationList.{names_of}
use Rattle.css_value.specs.OnlyGroup as names
use Rattle.css_value.proofs.Names.{none-in, one-in}
use Rattle.css_value.proofs.only.sets_any_one.Goals as goal

pub returns-in-None : goal.returns-in-None
returns-in-None c = sym (ap (λ ds. names.is_one (names_of ds)) (none-in c.args.text.now c.in-None.ensures.stated))

pub returns-in-Some : goal.returns-in-Some
returns-in-Some c =
    let d : spec.Declaration = record { name = spec.lowered c.in-Some.first.name.now; value = c.in-Some.first.value.now } in
    c.all_alike.ensures ∙ sym (one-in c.args.text.now d (spec.stated c.in-Some.rest.now) c.in-Some.ensures.stated)
