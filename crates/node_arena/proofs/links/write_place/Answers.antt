use Rattle.node_arena.proofs.ChangeLemmas.{change_is}
use Rattle.node_arena.specs.Change.{placed}
use Rattle.node_arena.proofs.links.write_place.Goals as goal

pub returns : goal.returns
returns c = rw (change_is c.args.nodes.now.slots c.args.slot (placed c.args.parent c.args.prev c.args.next) c.index_mut-node.result.now c.index_mut-node.ensures.value)
