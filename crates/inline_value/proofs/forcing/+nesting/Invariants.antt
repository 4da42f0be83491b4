use Rattle.std.proofs.Common.{◌≡◌, ◌+◌, ◌*◌, drop}
use Rattle.edit_model.specs.Gives.{labels_of}
use Rattle.edit_model.specs.Run.{final, for_each}
use Rattle.wrap_split.specs.EditDoc.Held.{Keeps}
use Rattle.inline_value.specs.Forcing.{force_child, forced}
use Rattle.inline_value.proofs.forcing.+nesting.Given as goal

abbrev pub decreases-forced : goal.decreases-forced
decreases-forced l = 3 * l.fuel

abbrev pub decreases-force_child : goal.decreases-force_child
decreases-force_child l = 3 * l.fuel + 1

abbrev pub decreases-force_each : goal.decreases-force_each
decreases-force_each l = 3 * l.fuel + 2

-- what is left to do ends where the whole ends
abbrev pub invariant-force_each-loop-child : goal.invariant-force_each-loop-child
invariant-force_each-loop-child l =
    (final (for_each (labels_of (drop l.child-index l.list)) (force_child (forced l.fuel l.command l.value) l.command l.value)) l.doc.state
    ≡ final (for_each (labels_of l.list) (force_child (forced l.fuel l.command l.value) l.command l.value)) l.initial.doc.state)
    × Keeps l.initial.doc l.doc
