use Rattle.std.proofs.Common.{◌++◌, take, drop, reverse}
use Rattle.edit_doc.specs.Logged.{HasMoved}
use Rattle.edit_doc.proofs.Doc.undo_entries.Given as goal

abbrev pub invariant-loop-done : goal.invariant-loop-done
invariant-loop-done g l =
    let was = l.initial.self in
    HasMoved was l.self (drop l._done was.history.undo) (reverse (take l._done was.history.undo) ++ was.history.redo)
