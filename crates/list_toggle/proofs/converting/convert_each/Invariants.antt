use Rattle.std.proofs.Common.{◌≡◌, drop}
use Rattle.edit_model.specs.Gives.{labels_of}
use Rattle.edit_model.specs.Run.{final, for_each}
use Rattle.inline_value.specs.EditDoc.Held.{Keeps}
use Rattle.list_toggle.specs.Converting.{convert_list}
use Rattle.list_toggle.proofs.converting.convert_each.Given as goal

-- what is left to do ends where the whole ends
abbrev pub invariant-loop-list : goal.invariant-loop-list
invariant-loop-list l =
    (final (for_each (labels_of (drop l.list-index l.lists)) (convert_list l.ordered)) l.doc.state
    ≡ final (for_each (labels_of l.lists) (convert_list l.ordered)) l.initial.doc.state)
    × Keeps l.initial.doc l.doc
