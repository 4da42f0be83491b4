use Rattle.std.proofs.Common.{sym, ◌∙◌}
use Rattle.css_value.proofs.PieceLengths.{stated-empty}
use Rattle.css_value.proofs.style_text.first_stated.Goals as goal

pub returns-clause-stated : goal.returns-clause-stated
returns-clause-stated c = sym c.loop-rest.invariant.left ∙ stated-empty c.loop-rest.rest.now (sym c.is_empty.ensures ∙ c.loop-rest-test.false)
