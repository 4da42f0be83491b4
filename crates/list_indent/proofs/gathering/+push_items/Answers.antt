use Rattle.std.proofs.Common.{◌≡◌, ◌<◌, Some, None, sym, ap, ◌∙◌, arith, append_assoc}
use Rattle.edit_model.specs.DomModel.Forest.{parent_of, depth_of}
use Rattle.edit_model.proofs.DomModel.Within.{depth_of-parent}
use Rattle.edit_model.specs.Gives.{label_of}
use Rattle.list_indent.proofs.Items.{items_root, items_child}
use Rattle.list_indent.proofs.gathering.+push_items.Goals as goal

pub push_items-requires : goal.push_items-requires
push_items-requires t c =
    let f = c.args.doc.now.state.trees in
    let up : parent_of f c.args.node.label ≡ Some c.in-Some.parent.label = sym c.parent.ensures.is ∙ ap label_of c.in-Some.is in
    let deep = depth_of-parent f c.args.node.label c.in-Some.parent.label c.valid.ensures.valid.forest.distinct up in
    let whole = c.decreases in
    let smaller : depth_of f c.in-Some.parent.label < t = omega (arith, deep, whole) in
    (smaller, (rw c.in-Some.is at c.parent.ensures.held, c.requires.each_held))

pub returns-in-None-clause-ok : goal.returns-in-None-clause-ok
returns-in-None-clause-ok t c =
    let f = c.args.doc.now.state.trees in
    let root : parent_of f c.args.node.label ≡ None = sym c.parent.ensures.is ∙ ap label_of c.in-None.is in
    rw (items_root f c.valid.ensures.valid.forest.distinct c.args.node.label c.requires.node_held.here root) c.push_if_item.ensures.ok

pub returns-in_ok-push_items-in-Some-clause-ok : goal.returns-in_ok-push_items-in-Some-clause-ok
returns-in_ok-push_items-in-Some-clause-ok t c =
    let f = c.args.doc.now.state.trees in
    let up : parent_of f c.args.node.label ≡ Some c.in-Some.parent.label = sym c.parent.ensures.is ∙ ap label_of c.in-Some.is in
    let line = items_child f c.valid.ensures.valid.forest.distinct c.args.node.label c.in-Some.parent.label c.requires.node_held.here up in
    let e = c.in_ok-push_items-in-Some.ensures.ok in
    rw (line, ← (append_assoc _ _ _), ← e) c.push_if_item-in-Some.ensures.ok
