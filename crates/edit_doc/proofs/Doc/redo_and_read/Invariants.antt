use Rattle.std.proofs.Common.{◌≡◌, map, take, drop, reverse}
use Rattle.std.specs.Prelude.{IfOk}
use Rattle.edit_doc.specs.Logged.{HasMoved, logged_entry}
use Rattle.edit_doc.proofs.Doc.redo_and_read.Given as goal

abbrev pub invariant-loop-done : goal.invariant-loop-done
invariant-loop-done g l =
    let was = l.initial.self in
    HasMoved was l.self (reverse (take l._done was.history.redo)) (drop l._done was.history.redo)
    × IfOk l.entries (λ entries. entries.items ≡ map logged_entry (take l._done was.history.redo))
