use Rattle.node_arena.proofs.ChangeLemmas.{change_is}
use Rattle.node_arena.specs.Change.{with_prev}
use Rattle.node_arena.proofs.links.write_prev.Goals as goal

pub returns : goal.returns
returns c = rw (change_is c.args.nodes.now.slots c.args.slot (with_prev c.args.to) c.index_mut.result.now c.index_mut.ensures.value)
