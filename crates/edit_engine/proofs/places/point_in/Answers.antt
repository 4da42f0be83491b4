use Rattle.std.proofs.Common.{arith}
use Rattle.edit_engine.proofs.Seeing.{placed_by}
use Rattle.edit_engine.proofs.places.point_in.Goals as goal

pub returns-then-offset-length-clause-placed : goal.returns-then-offset-length-clause-placed
returns-then-offset-length-clause-placed c = placed_by c.args.doc.now.state.trees c.args.node.label c.args.offset c.requires.inner (omega (arith, c.length.ensures, c.if-offset-length.true))
