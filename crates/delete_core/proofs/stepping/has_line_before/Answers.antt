use Rattle.delete_core.proofs.InLine.{follows_at}
use Rattle.delete_core.proofs.stepping.has_line_before.Goals as goal

pub returns-then-in_line : goal.returns-then-in_line
returns-then-in_line c = rw (follows_at c.args.doc.now.state.trees c.args.node.label (c.requires.knows c.if-in_line.true)) c.if-in_line.true
