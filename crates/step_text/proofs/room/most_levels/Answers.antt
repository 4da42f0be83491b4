use Rattle.std.proofs.Common.{arith}
use Rattle.step_text.proofs.Levels.{tree_below}
use Rattle.step_text.proofs.room.most_levels.Goals as goal

pub returns : goal.returns
returns c =
    let below = tree_below c.args.arena.now.trees c.args.node.label c.args.room.levels c.valid.ensures.distinct c.requires.bound in
    grind (arith, below, c.saturating_sub.ensures, c.from.ensures, c.depth.ensures)
