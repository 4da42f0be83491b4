use Rattle.std.proofs.Common.{refl}
use Rattle.dom_model.specs.Contents.{with_chars}
use Rattle.node_arena.specs.Change.{with_content}
use Rattle.node_arena.proofs.ChangeLemmas.{change_is}
use Rattle.node_arena.proofs.edits.swap_chars_at.Goals as goal

pub returns-clause-nodes : goal.returns-clause-nodes
returns-clause-nodes c = rw (c.swap_chars.ensures.content, change_is c.args.nodes.now.slots c.args.slot (with_content (with_chars c.args.words.now)) c.index_mut.result.now c.index_mut.ensures.value) refl
