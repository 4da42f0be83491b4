use Rattle.std.proofs.Common.{◌≡◌, ◌++◌, drop, length, ap, ◌∙◌}
use Rattle.inline_value.proofs.EditDoc.Children.{pushed_held}
use Rattle.inline_value.proofs.EditQuery.Lists.{tail_is}
use Rattle.inline_commands.proofs.Merging.{nobody, merged_on, merged_rest, rest_held}
use Rattle.inline_commands.proofs.links.push_merged.Goals as goal

pub loop-node-preserved : goal.loop-node-preserved
loop-node-preserved c =
    let i = c.loop-node.invariant in
    let given = c.in_ok-at.ensures in
    record {
      within = given.stop;
      each = pushed_held c.args.doc.now _ _ _ given.held (c.requires.inside_held _ c.loop-node-test.true) c.in_ok-push.ensures.items;
      listed = merged_on c.args.doc.now.state.trees c.args.above.now c.args.inside.now _ c.loop-node.list.items c.loop-node.at c.loop-node.node-index i.listed c.loop-node-test.true _ _ _ given.around given.beyond c.in_ok-push.ensures.items;
    }

pub returns-clause-held : goal.returns-clause-held
returns-clause-held c =
    rest_held c.args.doc.now c.loop-node.list.items c.args.above.now _ c.loop-node.at c.loop-node.invariant.each c.requires.above_held
    (c.in_ok-extend_from_slice.ensures.items ∙ ap (λ ys. c.loop-node.list.items ++ ys) (tail_is c.args.above.now c.loop-node.at))

pub returns-clause-ok : goal.returns-clause-ok
returns-clause-ok c =
    merged_rest c.args.doc.now.state.trees c.args.above.now c.args.inside.now _ c.loop-node.list.items c.loop-node.at c.loop-node.node-index c.loop-node.invariant.listed c.loop-node-test.false _
    (c.in_ok-extend_from_slice.ensures.items ∙ ap (λ ys. c.loop-node.list.items ++ ys) (tail_is c.args.above.now c.loop-node.at))
