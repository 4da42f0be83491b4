use Rattle.std.proofs.Common.{◌∙◌}
use Rattle.dom_model.proofs.AttributeLemmas.{new-row}
use Rattle.dom_model.proofs.attributes.push.Goals as goal

pub returns-clause-ok : goal.returns-clause-ok
returns-clause-ok c =
    c.slim.ensures
    ∙ c.in_ok-insert.ensures.entries
    ∙ new-row c.args.number (record { name = c.args.name; value = c.args.value }) c.args.rows.now.entries c.requires.above
