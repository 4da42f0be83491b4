use Rattle.std.proofs.Common.{refl}
use Rattle.dom_model.specs.Contents.{with_attributes}
use Rattle.node_arena.specs.Change.{with_content}
use Rattle.node_arena.proofs.ChangeLemmas.{change_is}
use Rattle.node_arena.proofs.edits.swap_attributes_at.Goals as goal

pub returns-clause-nodes : goal.returns-clause-nodes
returns-clause-nodes c = rw (c.swap_list.ensures.content, change_is c.args.nodes.now.slots c.args.slot (with_content (with_attributes c.args.list.now)) c.index_mut.result.now c.index_mut.ensures.value) refl
