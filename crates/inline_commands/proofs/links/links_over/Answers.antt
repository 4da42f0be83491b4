use Rattle.std.proofs.Common.{◌++◌, ap, ◌∙◌}
use Rattle.inline_commands.proofs.Merging.{over_on, rest_held}
use Rattle.inline_commands.proofs.links.links_over.Goals as goal

pub loop-node-preserved : goal.loop-node-preserved
loop-node-preserved c =
    let d = c.args.doc.now in
    let i = c.loop-node.invariant in
    let low = c.loop-node-test.true in
    let more = c.in_ok-extend_from_slice.ensures.items ∙ ap (λ ys. c.loop-node.links.items ++ ys) c.deref.ensures.value in
    record {
      before = c.requires c.loop-node.node-index low;
      each = rest_held d c.loop-node.links.items c.in_ok-beside.beside.items _ 0 i.each c.in_ok-beside.ensures.held more;
      listed = over_on d.state.trees c.args.list.now c.loop-node.node-index low c.loop-node.last.label c.loop-node.links.items _ i.listed c.in_ok-beside.beside.items _ c.in_ok-beside.ensures.links more;
    }
