use Rattle.std.proofs.Common.{sym, ◌∙◌}
use Rattle.delete_core.proofs.InLine.{follows_outer, not_so}
use Rattle.delete_core.proofs.stepping.out_back.Goals as goal

pub returns-in_ok-at-clause-knows : goal.returns-in_ok-at-clause-knows
returns-in_ok-at-clause-knows c = λ _. follows_outer c.args.doc.now.state c.in_ok-node.node.label c.in_ok-at.at c.in_ok-at.ensures (not_so _ (sym c.has_line_before.ensures ∙ c.if-has_line_before.true))
