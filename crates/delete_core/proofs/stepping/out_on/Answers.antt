use Rattle.std.proofs.Common.{sym, ◌∙◌}
use Rattle.delete_core.proofs.InLine.{precedes_outer, not_so}
use Rattle.delete_core.proofs.stepping.out_on.Goals as goal

pub returns-in_ok-at-clause-knows : goal.returns-in_ok-at-clause-knows
returns-in_ok-at-clause-knows c = λ _. precedes_outer c.args.doc.now.state c.in_ok-node.node.label c.in_ok-at.at c.in_ok-at.ensures (not_so _ (sym c.has_line_after.ensures ∙ c.if-has_line_after.true))
