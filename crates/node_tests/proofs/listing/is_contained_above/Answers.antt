use Rattle.std.proofs.Common.{sym, ap, ◌∙◌, nat_lt}
use Rattle.node_styles.proofs.DomModel.Within.{within_self}
use Rattle.node_styles.specs.NodeArena.Held.{label}
use Rattle.node_tests.proofs.Above.{set_off, set_on, out_of_start, out_of_end, past_end, not_past_at}
use Rattle.node_tests.proofs.listing.is_contained_above.Goals as goal

pub returns-then-not-sides : goal.returns-then-not-sides
returns-then-not-sides g c =
    let law = c.valid.ensures in
    sym (out_of_start law c.args.range.0 c.args.range.1 c.args.node.label (law.here c.args.node c.requires.node_held) (c.requires.sides.starts (set_off c.args.sides.after c.if-not-sides.true)))

pub returns-then-range-node : goal.returns-then-range-node
returns-then-range-node g c =
    let law = c.valid.ensures in
    let top = c.args.node.label in
    let here = law.here c.args.node c.requires.node_held in
    let on = set_on c.args.sides.after c.if-not-sides.false in
    sym (out_of_end law c.args.range.0 c.args.range.1 top here (c.requires.sides.after on) (within_self (g.N.Nodes.trees c.args.nodes.now) top law.distinct here) (c.requires.sides.ends (c.requires.above on)) c.if-range-node.true)

pub returns-then-not-is_nothing : goal.returns-then-not-is_nothing
returns-then-not-is_nothing g c =
    let law = c.valid.ensures in
    let top = c.args.node.label in
    let here = law.here c.args.node c.requires.node_held in
    let on = set_on c.args.sides.after c.if-not-sides.false in
    let is = c.if-range-node.false in
    sym (not_past_at law c.args.range.0 c.args.range.1 top here (c.requires.sides.after on) (within_self (g.N.Nodes.trees c.args.nodes.now) top law.distinct here) is (label c.args.next) (c.requires.next (c.requires.above on) is) (sym c.is_nothing.ensures ∙ c.if-not-is_nothing.true))

pub returns : goal.returns
returns g c =
    let law = c.valid.ensures in
    let top = c.args.node.label in
    let here = law.here c.args.node c.requires.node_held in
    let on = set_on c.args.sides.after c.if-not-sides.false in
    ap (λ n. nat_lt n c.args.range.1.offset) c.length.ensures
    ∙ sym (past_end law c.args.range.0 c.args.range.1 top here (c.requires.sides.after on) (within_self (g.N.Nodes.trees c.args.nodes.now) top law.distinct here) c.if-range-node.false)
