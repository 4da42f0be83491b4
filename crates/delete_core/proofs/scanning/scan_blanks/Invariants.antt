use Rattle.std.proofs.Common.{◌≡◌, true}
use Rattle.edit_model.specs.Run.{final, value, while_at_most}
use Rattle.inline_value.specs.EditDoc.Held.{Keeps}
use Rattle.inline_value.specs.WrapSplit.Walks.{turn_bound}
use Rattle.delete_core.specs.InLine.{PrecedesNone}
use Rattle.delete_core.specs.Whitespace.{scans, scan_turn}
use Rattle.delete_core.proofs.scanning.scan_blanks.Given as goal

-- what is left to do ends where the whole ends, and what is known where it stands is so
abbrev pub invariant-loop-turns : goal.invariant-loop-turns
invariant-loop-turns l =
    (final (while_at_most l.turns scans (scan_turn l.fix) l.scan) l.doc.state
    ≡ final (while_at_most (turn_bound l.initial.doc.state) scans (scan_turn l.fix) l.initial.scan) l.initial.doc.state)
    × ((value (while_at_most l.turns scans (scan_turn l.fix) l.scan) l.doc.state
    ≡ value (while_at_most (turn_bound l.initial.doc.state) scans (scan_turn l.fix) l.initial.scan) l.initial.doc.state)
    × (Keeps l.initial.doc l.doc
    × (l.in_line ≡ true → PrecedesNone l.doc.state.trees l.scan.end)))

abbrev pub decreases-loop-turns : goal.decreases-loop-turns
decreases-loop-turns l = l.turns
