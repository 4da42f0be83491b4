use Rattle.std.proofs.Common.{◌≡◌, ◌+◌, ◌-◌, ◌≤◌, length}
use Rattle.std.specs.Prelude.{min}
use Rattle.edit_engine.specs.Editing.{turned_times}
use Rattle.edit_engine.specs.Turning.{entries_of, turned_by}
use Rattle.edit_session.proofs.acts.turn_through.Given as goal

-- the turns so far, and those that are left
abbrev pub invariant-loop-taken : goal.invariant-loop-taken
invariant-loop-taken l = record {
  within : l.taken ≤ l.count;
  left : l.taken + min (l.count - l.taken) (length (entries_of l.turn l.editor.editing.history)) ≡ min l.count (length (entries_of l.turn l.initial.editor.editing.history));
  after : turned_times (min (l.count - l.taken) (length (entries_of l.turn l.editor.editing.history))) (turned_by l.turn) l.editor.editing ≡ turned_times (min l.count (length (entries_of l.turn l.initial.editor.editing.history))) (turned_by l.turn) l.initial.editor.editing;
}

abbrev pub decreases-loop-taken : goal.decreases-loop-taken
decreases-loop-taken l = l.count - l.taken
