use Rattle.std.proofs.Common.{sym, ◌∙◌}
use Rattle.block_extend.specs.Descendants.{has_descendant}
use Rattle.block_extend.proofs.Visiting.{begins}
use Rattle.block_extend.proofs.descendants.begins_with.Goals as goal

pub returns-in-Some-clause-below : goal.returns-in-Some-clause-below
unfolding has_descendant
returns-in-Some-clause-below g c = λ passes.
    let named = rw c.in-Some.is at c.first_child.ensures in
    begins c.valid.ensures (g.C.Choice.chosen c.args.choice.now c.args.nodes.now) c.args.node c.in-Some.child c.requires.held named (sym c.chooses_next.ensures.chosen ∙ passes)
