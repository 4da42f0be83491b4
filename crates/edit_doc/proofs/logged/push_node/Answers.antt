use Rattle.std.proofs.Common.{None, append-nil, sym}
use Rattle.edit_model.proofs.DomModel.Stands.{seek_absent}
use Rattle.edit_doc.proofs.logged.push_node.Goals as goal

pub returns-in-None : goal.returns-in-None
returns-in-None c = rw (seek_absent None c.args.arena.now.trees c.args.label (c.find.ensures.absent.0 c.in-None.is)) (sym (append-nil c.args.nodes.now.items))
