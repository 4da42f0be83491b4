use Rattle.edit_doc.proofs.Chosen.{keeps_grown, keeps_sent, keeps_both}
use Rattle.edit_doc.proofs.Doc.send_points.Goals as goal

pub returns-then-inserted-clause-keeps : goal.returns-then-inserted-clause-keeps
returns-then-inserted-clause-keeps c =
    keeps_both c.args.self.now c.send.new.self c.grow.new.self
    (keeps_sent c.args.self.now c.send.new.self c.args.node.label c.args.at c.args.tail.label c.send.ensures)
    (keeps_grown c.send.new.self c.grow.new.self c.args.after c.grow.ensures)
