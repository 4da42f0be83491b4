use Rattle.delete_core.proofs.InLine.{precedes_at}
use Rattle.delete_core.proofs.stepping.has_line_after.Goals as goal

pub returns-then-in_line : goal.returns-then-in_line
returns-then-in_line c = rw (precedes_at c.valid.ensures c.args.node.label (c.requires.knows c.if-in_line.true)) c.if-in_line.true
