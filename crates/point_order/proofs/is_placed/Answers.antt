use Rattle.std.proofs.Common.{refl, sym, ap, ◌∙◌, true, false, nat_le}
use Rattle.node_arena.specs.DomModel.Contents.{length_of}
use Rattle.point_order.proofs.Document.{absent, inside, placed, not_placed}
use Rattle.point_order.proofs.is_placed.Goals as goal

pub returns-then-is_within : goal.returns-then-is_within
returns-then-is_within g c =
    let f = (g.N.Nodes.trees c.args.nodes.now) in
    let same = c.in-Some.ensures.found.0 in
    let below = inside f c.is_within.result c.document.result.label c.in-Some.node.label c.args.point.label c.document.ensures.label same c.is_within.ensures in
    placed f c.args.point true c.has_place.result (sym c.if-is_within.true ∙ below) (c.has_place.ensures ∙ ap (λ l. nat_le c.args.point.offset (length_of f l)) same)

pub returns-else-is_within : goal.returns-else-is_within
returns-else-is_within g c =
    let f = (g.N.Nodes.trees c.args.nodes.now) in
    let same = c.in-Some.ensures.found.0 in
    let below = inside f c.is_within.result c.document.result.label c.in-Some.node.label c.args.point.label c.document.ensures.label same c.is_within.ensures in
    not_placed f c.args.point c.is_within.result below c.if-is_within.false

pub returns-in-None : goal.returns-in-None
returns-in-None g c = not_placed (g.N.Nodes.trees c.args.nodes.now) c.args.point false (absent (g.N.Nodes.trees c.args.nodes.now) c.args.point.label (c.in-None.ensures.absent.0 refl)) refl
