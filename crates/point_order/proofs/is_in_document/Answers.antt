use Rattle.std.proofs.Common.{refl}
use Rattle.point_order.proofs.Document.{absent}
use Rattle.point_order.proofs.is_in_document.Goals as goal

pub returns-in-None : goal.returns-in-None
returns-in-None g c = absent (g.N.Nodes.trees c.args.nodes.now) c.args.label (c.in-None.ensures.absent.0 refl)
