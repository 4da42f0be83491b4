use Rattle.std.proofs.Common.{sym}
use Rattle.indexmap.proofs.CallerLemmas.{keys-with_value_at}
use Rattle.dom_model.proofs.AttributeLemmas.{set-at}
use Rattle.dom_model.proofs.attributes.write.Goals as goal

pub returns-in-Some-clause-numbers : goal.returns-in-Some-clause-numbers
returns-in-Some-clause-numbers c =
    keys-with_value_at c.args.rows.now c.args.place (record { name = c.in-Some.row.now.name; value = c.args.value })

pub returns-in-Some-clause-values : goal.returns-in-Some-clause-values
returns-in-Some-clause-values c = λ name distinct is.
    set-at name c.args.value c.args.rows.now.entries c.args.place c.in-Some.row.now (sym c.in-Some.ensures.value) distinct is
