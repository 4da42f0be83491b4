use Rattle.std.proofs.Common.{refl, sym, ◌∙◌}
use Rattle.inline_value.proofs.Keeping.{push_keeps}
use Rattle.inline_value.proofs.pushing.push_down.Goals as goal

pub returns-then-not-is_given_above-clause-gives : goal.returns-then-not-is_given_above-clause-gives
returns-then-not-is_given_above-clause-gives c =
    (push_keeps c.args.doc.now.state c.args.command _ c.args.node.label (sym c.is_given_above.ensures ∙ c.if-not-is_given_above.true), refl)
