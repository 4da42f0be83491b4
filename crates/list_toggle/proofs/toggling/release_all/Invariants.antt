use Rattle.std.proofs.Common.{◌≡◌, ◌≤◌, ◌-◌, length, drop}
use Rattle.edit_model.specs.Gives.{labels_of}
use Rattle.edit_model.specs.Run.{final}
use Rattle.inline_value.specs.EditDoc.Held.{Keeps}
use Rattle.list_indent.specs.Series.{for_series}
use Rattle.list_toggle.specs.Toggle.{goes_on_out, release_series}
use Rattle.list_toggle.proofs.toggling.release_all.Given as goal

-- what is left to do ends where the whole ends
abbrev pub invariant-loop-at : goal.invariant-loop-at
invariant-loop-at l =
    (l.at ≤ length l.list)
    × ((final (for_series (goes_on_out l.ordered) (release_series l.ordered) (labels_of (drop l.at l.list))) l.doc.state
    ≡ final (for_series (goes_on_out l.ordered) (release_series l.ordered) (labels_of l.list)) l.initial.doc.state)
    × Keeps l.initial.doc l.doc)

abbrev pub decreases-loop-at : goal.decreases-loop-at
decreases-loop-at l = length l.list - l.at
