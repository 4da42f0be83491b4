use Rattle.std.proofs.Common.{◌≡◌, ℕ, get_or, None}
use Rattle.node_arena.specs.Made.{kept_outside}
use Rattle.node_arena.proofs.edits.give_up_from.Given as goal

abbrev pub invariant-loop-label : goal.invariant-loop-label
invariant-loop-label l = (j : ℕ) → get_or l.nodes.slots j None ≡ kept_outside l.first l.label (get_or l.initial.nodes.slots j None)
