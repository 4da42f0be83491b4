use Rattle.std.proofs.Common.{length, get_or, None, ◌≤◌, arith}
use Rattle.node_arena.proofs.GiveUp.{give_up_start, give_up_turn, give_up_end}
use Rattle.node_arena.proofs.edits.give_up_from.Goals as goal

pub loop-label-init : goal.loop-label-init
loop-label-init c = give_up_start c.args.first c.args.nodes.now.slots

pub loop-label-preserved : goal.loop-label-preserved
loop-label-preserved c =
    give_up_turn c.args.nodes.now.slots c.args.index.now c.requires.indexed c.args.first c.loop-label.label c.loop-label.auto.label (λ j. get_or c.loop-label.nodes.slots j None) (λ j. get_or c.give_up.new.nodes.slots j None)
    c.loop-label.invariant c.give_up.ensures.at c.give_up.ensures.others

pub returns : goal.returns
returns c =
    let le : length c.args.index.now ≤ c.loop-label.label = omega (arith, c.requires.long, c.loop-label-test.false) in
    give_up_end c.args.nodes.now.slots c.args.index.now c.requires.indexed c.args.first c.loop-label.label le (λ j. get_or c.loop-label.nodes.slots j None) c.loop-label.invariant
