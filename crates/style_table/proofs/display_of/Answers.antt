-- What is asked for before the rows is what these give.
use Rattle.std.proofs.Common.{sym, ◌∙◌}
use Rattle.style_table.proofs.Plain.{block_shown, plain_shown}
use Rattle.style_table.proofs.display_of.Goals as goal

pub returns-then-has_name : goal.returns-then-has_name
returns-then-has_name c = block_shown c.args.name.now (sym c.has_name.ensures ∙ c.if-has_name.true)

pub returns-then-has_name-2 : goal.returns-then-has_name-2
returns-then-has_name-2 c =
    plain_shown c.args.name.now (sym c.has_name-2.ensures ∙ c.if-has_name-2.true)
