use Rattle.std.proofs.Common.{◌∙◌}
use Rattle.step_edits.proofs.Appending.{tree_appended, below_inner, below_room}
use Rattle.step_edits.proofs.trees.tree_nodes.Goals as goal

pub push_trees-requires-clause-inner : goal.push_trees-requires-clause-inner
push_trees-requires-clause-inner c = below_inner c.args.arena.now c.args.node c.valid.ensures c.requires c.first_child.result c.first_child.ensures

pub push_trees-requires-clause-room : goal.push_trees-requires-clause-room
push_trees-requires-clause-room c = below_room c.args.arena.now c.args.node _ c.valid.ensures c.requires c.content.ensures c.first_child.result c.first_child.ensures

pub returns : goal.returns
returns c =
    c.from_vec.ensures
    ∙ tree_appended c.args.arena.now c.args.node _ c.valid.ensures c.requires c.content.ensures c.first_child.result c.first_child.ensures _ _ _ c.new-nodes.ensures.items
    c.in_ok-push_node.ensures.ok c.in_ok-push_trees.ensures.ok
