use Rattle.std.proofs.Common.{◌≡◌, Some, sym, ap, ◌∙◌, subst}
use Rattle.node_paths.specs.NodeArena.Held.{label}
use Rattle.node_paths.specs.DomModel.Forest.{parent_of, IsWithin}
use Rattle.block_extend.proofs.Parents.{parent_inside, parent_outside, label_is}
use Rattle.block_extend.proofs.gathering.is_below_top.Goals as goal

pub returns-then-parent-inside : goal.returns-then-parent-inside
returns-then-parent-inside g c =
    let f = g.N.Nodes.trees c.args.nodes.now in
    let named = rw c.in-Some.is at c.parent.ensures in
    let up : parent_of f c.args.node.label ≡ Some c.args.inside.label = sym named.is ∙ ap (λ l. Some l) c.if-parent-inside.true in
    parent_inside f c.args.top.label c.args.inside.label c.args.node.label c.valid.ensures.distinct (c.valid.ensures.here c.args.top c.requires.top_held) up c.requires.inside

pub returns-then-is_at : goal.returns-then-is_at
returns-then-is_at g c =
    let f = g.N.Nodes.trees c.args.nodes.now in
    let named = rw c.in-Some.is at c.parent.ensures in
    let up : parent_of f c.args.node.label ≡ Some c.in-Some.parent.label = sym named.is in
    let above : parent_of f c.args.top.label ≡ Some c.in-Some.parent.label = sym c.parent-in-Some.ensures.is ∙ label_is (label c.parent-in-Some.result) c.in-Some.parent.label (sym c.is_at.ensures ∙ c.if-is_at.true) in
    parent_outside f c.args.top.label c.in-Some.parent.label c.args.node.label c.valid.ensures.distinct (c.valid.ensures.here c.args.top c.requires.top_held) up above
