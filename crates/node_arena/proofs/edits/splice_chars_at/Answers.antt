use Rattle.std.proofs.Common.{◌≡◌, [], refl, sym, ap, ◌∙◌, unwrap_or}
use Rattle.slab.specs.Slab.{get}
use Rattle.dom_model.specs.Contents.{chars_in, with_chars}
use Rattle.dom_model.specs.Room.{spliced}
use Rattle.node_arena.specs.Change.{chars_stored, with_content}
use Rattle.node_arena.proofs.ChangeLemmas.{change_is}
use Rattle.node_arena.proofs.edits.splice_chars_at.Goals as goal

pub returns : goal.returns
returns c =
    let node = c.index_mut.result.now in
    let stored = chars_stored (get c.args.nodes.now c.args.slot) in
    let words = spliced stored c.args.at c.args.count c.args.put.now in
    let same : unwrap_or (chars_in node.content) [] ≡ stored = sym (ap chars_stored c.index_mut.ensures.value) in
    let content = c.splice_chars.ensures
    ∙ ap (λ t. with_chars (spliced t c.args.at c.args.count c.args.put.now) node.content) same in
    rw (content, change_is c.args.nodes.now.slots c.args.slot (with_content (with_chars words)) node c.index_mut.ensures.value) refl
