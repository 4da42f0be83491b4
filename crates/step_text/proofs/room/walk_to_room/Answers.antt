use Rattle.std.proofs.Common.{sym, ◌∙◌, arith}
use Rattle.step_text.proofs.Levels.{any_tree, no_room, room_outside, room_within}
use Rattle.step_text.proofs.room.walk_to_room.Goals as goal

pub returns-then-not-is_in_document-clause-room : goal.returns-then-not-is_in_document-clause-room
returns-then-not-is_in_document-clause-room c =
    let a = c.args in
    sym (room_outside a.arena.now.trees a.node.label a.parent.label (sym c.is_in_document.ensures ∙ c.if-not-is_in_document.true))

pub returns-then-not-is_in_document-clause-reach : goal.returns-then-not-is_in_document-clause-reach
returns-then-not-is_in_document-clause-reach c = λ _.
    let few = any_tree c.args.arena.now c.args.node.label c.valid.ensures in
    omega (arith, few, c.depth.ensures, c.depth.type_inv, c.reach.ensures.reached)

pub returns-then-reach-gt-DEEPEST-clause-room : goal.returns-then-reach-gt-DEEPEST-clause-room
returns-then-reach-gt-DEEPEST-clause-room c =
    let a = c.args in
    sym (no_room a.arena.now.trees a.node.label a.parent.label (sym c.is_in_document.ensures ∙ c.if-not-is_in_document.false)
    (omega (arith, c.if-reach-gt-DEEPEST.true, c.from.ensures, c.from-above.ensures, c.depth.ensures, c.tree_counts-counts.ensures.depth)))

pub returns-clause-room : goal.returns-clause-room
returns-clause-room c =
    let a = c.args in
    sym (room_within a.arena.now.trees a.node.label a.parent.label
    (omega (arith, c.if-reach-gt-DEEPEST.false, c.from.ensures, c.from-above.ensures, c.depth.ensures, c.tree_counts-counts.ensures.depth)))
