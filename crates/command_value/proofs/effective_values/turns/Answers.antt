use Rattle.std.proofs.Common.{ap, subst, arith}
use Rattle.node_styles.specs.DomModel.Forest.{IsWithin}
use Rattle.node_styles.specs.TurnBound.{turn_bound}
use Rattle.command_value.specs.EffectiveValues.{background_at}
use Rattle.command_value.proofs.Ancestors.{lineage_short, lineage_within}
use Rattle.command_value.proofs.Grounds.{enough}
use Rattle.command_value.proofs.effective_values.turns.Goals as goal

pub returns-then-is_within : goal.returns-then-is_within
returns-then-is_within g c =
    let f = g.N.Nodes.trees c.args.nodes.now in
    let l = c.args.node.label in
    let inside : IsWithin f 0 l = subst (λ k. IsWithin f k l) c.document.ensures.label (c.is_within.ensures.0 c.if-is_within.true) in
    enough f c.valid.ensures.distinct c.next_label.result (turn_bound f) l (c.valid.ensures.here c.args.node c.requires) (omega (arith, lineage_short f l, c.valid.ensures.few, c.next_label.ensures)) (omega (arith, lineage_within c.valid.ensures l inside))

pub returns-else-is_within : goal.returns-else-is_within
returns-else-is_within g c =
    let f = g.N.Nodes.trees c.args.nodes.now in
    ap (λ n. background_at n f c.args.node.label) c.turn_bound.ensures
