use Rattle.std.proofs.Common.{sym, ◌∙◌}
use Rattle.css_value.proofs.Entries.{other-step, found-at}
use Rattle.css_value.proofs.Places.{entry-name}
use Rattle.css_value.proofs.declarations.place_of.Goals as goal

pub returns-then-has_name-clause-value : goal.returns-then-has_name-clause-value
returns-then-has_name-clause-value c = (found-at c.args.name.now c.loop-place.place c.args.list.now.items (sym c.has_name.ensures ∙ c.if-has_name.true) c.loop-place.invariant.value c.loop-place.invariant.left).0

pub returns-then-has_name-clause-left : goal.returns-then-has_name-clause-left
returns-then-has_name-clause-left c = (found-at c.args.name.now c.loop-place.place c.args.list.now.items (sym c.has_name.ensures ∙ c.if-has_name.true) c.loop-place.invariant.value c.loop-place.invariant.left).1

pub returns-then-has_name-clause-name : goal.returns-then-has_name-clause-name
returns-then-has_name-clause-name c = entry-name c.args.name.now c.args.list.now.items c.loop-place.place (sym c.has_name.ensures ∙ c.if-has_name.true)

pub loop-place-preserved : goal.loop-place-preserved
loop-place-preserved c =
    let step = other-step c.args.name.now c.loop-place.place c.args.list.now.items (sym c.has_name.ensures ∙ c.if-has_name.false) in
    record { value = step.0 ∙ c.loop-place.invariant.value; left = step.1 ∙ c.loop-place.invariant.left }
