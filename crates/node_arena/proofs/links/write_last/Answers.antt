use Rattle.node_arena.proofs.ChangeLemmas.{change_is}
use Rattle.node_arena.specs.Change.{with_last}
use Rattle.node_arena.proofs.links.write_last.Goals as goal

pub returns : goal.returns
returns c = rw (change_is c.args.nodes.now.slots c.args.slot (with_last c.args.to) c.index_mut.result.now c.index_mut.ensures.value)
