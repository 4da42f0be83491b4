-- Undo or redo.
use Rattle.std.specs.Prelude.{Bool, List}
use Rattle.edit_model.specs.History.{Entry, History}
use Rattle.edit_engine.specs.declared.turning.Turn.{Turn}
use Rattle.edit_engine.specs.declared.turning.Turn.TheVariants.{Undo, Redo}
use Rattle.edit_engine.specs.Editing.{Editing, undone, redone}
use Rattle.edit_engine.specs.Following.{after_undo, after_redo}
use Rattle.edit_engine.specs.declared.following.Following.{Following}

-- the entries that it would take, one at a time
abbrev pub entries_of : Turn → History → List Entry
entries_of Undo h = h.undo
entries_of Redo h = h.redo

-- the editor once it took one
abbrev pub turned_by : Turn → Editing → Editing
turned_by Undo e = undone e
turned_by Redo e = redone e

-- what a host is told once it took one, or took none
abbrev pub told_by_turn : Turn → (taken : Bool) → Following → Following
told_by_turn Undo taken w = after_undo taken w
told_by_turn Redo taken w = after_redo taken w
