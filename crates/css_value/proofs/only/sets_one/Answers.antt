use Rattle.std.proofs.Common.{sym, ap, ◌∙◌, ◌&&◌, bytes_eq}
use Rattle.std.specs.List.{list_all}
use Rattle.css_value.specs.StyleText as spec
use Rattle.css_value.specs.DeclarationList.{names_of}
use Rattle.css_value.specs.OnlyGroup as names
use Rattle.css_value.proofs.Names.{none-in, only-in}
use Rattle.css_value.proofs.only.sets_one.Goals as goal

pub returns-in-None : goal.returns-in-None
returns-in-None c = sym (ap (λ ds. names.is_only c.args.name.now (names_of ds)) (none-in c.args.text.now c.in-None.ensures.stated))

pub returns-then-is_named : goal.returns-then-is_named
returns-then-is_named c =
    let d : spec.Declaration = record { name = spec.lowered c.in-Some.first.name.now; value = c.in-Some.first.value.now } in
    c.all_named.ensures
    ∙ ap (λ b. b && list_all (λ n. bytes_eq c.args.name.now n) (names_of (spec.stated c.in-Some.rest.now))) (sym c.if-is_named.true ∙ c.is_named.ensures)
    ∙ sym (only-in c.args.text.now c.args.name.now d (spec.stated c.in-Some.rest.now) c.in-Some.ensures.stated)

pub returns-else-is_named : goal.returns-else-is_named
returns-else-is_named c =
    let d : spec.Declaration = record { name = spec.lowered c.in-Some.first.name.now; value = c.in-Some.first.value.now } in
    c.if-is_named.false
    ∙ ap (λ b. b && list_all (λ n. bytes_eq c.args.name.now n) (names_of (spec.stated c.in-Some.rest.now))) (sym c.if-is_named.false ∙ c.is_named.ensures)
    ∙ sym (only-in c.args.text.now c.args.name.now d (spec.stated c.in-Some.rest.now) c.in-Some.ensures.stated)
