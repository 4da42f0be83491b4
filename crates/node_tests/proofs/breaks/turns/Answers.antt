use Rattle.std.proofs.Common.{◌+◌, ◌*◌, ap, subst}
use Rattle.node_styles.specs.DomModel.Forest.{IsWithin}
use Rattle.node_tests.specs.LineBreaks.{end_of, turn_to, walk, meets_break}
use Rattle.node_tests.proofs.Endings.{free}
use Rattle.node_tests.proofs.breaks.turns.Goals as goal

pub returns-then-is_within : goal.returns-then-is_within
returns-then-is_within g c =
    let f = g.N.Nodes.trees c.args.nodes.now in
    let l = c.args.node.label in
    let inside : IsWithin f 0 l = subst (λ k. IsWithin f k l) c.document.ensures.label (c.is_within.ensures.0 c.if-is_within.true) in
    λ side. free c.valid.ensures l (c.valid.ensures.here c.args.node c.requires) inside side _ (ap (λ n. 2 * n + 2) c.next_label.ensures)

pub returns-else-is_within : goal.returns-else-is_within
unfolding meets_break
returns-else-is_within g c =
    let f = (g.N.Nodes.trees c.args.nodes.now) in
    λ side.
    ap (λ n. walk (turn_to side f) n (end_of side f c.args.node.label)) c.turn_bound.ensures
