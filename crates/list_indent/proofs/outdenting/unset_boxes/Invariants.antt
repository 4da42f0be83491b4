use Rattle.std.proofs.Common.{◌≡◌, drop, map}
use Rattle.edit_model.specs.HtmlNames.BoxNames.{box_names}
use Rattle.edit_model.specs.Run.{final, for_each}
use Rattle.inline_value.specs.EditDoc.Held.{Keeps}
use Rattle.inline_value.specs.Styling.{unset_style}
use Rattle.list_indent.proofs.outdenting.unset_boxes.Given as goal

-- what is left to do ends where the whole ends
abbrev pub invariant-loop-name : goal.invariant-loop-name
invariant-loop-name l =
    (final (for_each (map (λ row. row.now) (drop l.name-index l.names)) (unset_style l.node.label)) l.doc.state
    ≡ final (for_each box_names (unset_style l.node.label)) l.initial.doc.state)
    × Keeps l.initial.doc l.doc
