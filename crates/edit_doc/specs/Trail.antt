-- The value of the history of a document: the log of the steps, and a snapshot beside each of its
-- entries. No public clause cites this module.
use Rattle.std.specs.Prelude.{◌≡◌, ℕ, List, [], ◌++◌, length, take, drop}
use Rattle.edit_model.specs.DomModel.ArenaState.{ArenaState as Arena}
use Rattle.step_edits.specs.UndoLog.Log.{Log, IsLog, FitsUndo, FitsRedo, empty, with_step, undone, redone, undone_state, redone_state}
use Rattle.step_edits.specs.EditSteps.declared.step.Step.{Step}
use Rattle.step_edits.specs.EditSteps.Step.{StepFits, step_applied, step_inverse}
use Rattle.edit_doc.specs.declared.command.EntrySnapshot.{EntrySnapshot}
use Rattle.edit_doc.specs.declared.history.Way.{Way}
use Rattle.edit_doc.specs.declared.history.Way.TheVariants.{Back, Forth}

-- the log, and what stands beside the entries that undo would take, and beside those that redo
-- would take
pub record Trail : Type 0 where
  pub log : Log Step
  pub past : List EntrySnapshot
  pub future : List EntrySnapshot

abbrev pub trail_of : Log Step → List EntrySnapshot → List EntrySnapshot → Trail
trail_of log past future = record { log = log; past = past; future = future }

-- ---- after a call

abbrev pub first_trail : ℕ → Trail
first_trail depth = trail_of (empty depth) [] []

abbrev pub with_log : Trail → Log Step → Trail
with_log t log = record t { log = log }

abbrev pub with_note : Trail → Step → Trail
with_note t x = with_log t (with_step t.log x)

-- ---- the entries that lie one way: back, as undo goes, and forth, as redo goes

abbrev pub steps_along : Way → Trail → List (List Step)
steps_along Back t = t.log.undo
steps_along Forth t = t.log.redo

abbrev pub snapshots_along : Way → Trail → List EntrySnapshot
snapshots_along Back t = t.past
snapshots_along Forth t = t.future

-- the steps of the first of such entries fit the nodes
abbrev pub FitsAlong : Way → List (List Step) → Arena → Type 0
FitsAlong Back es a = FitsUndo step_applied StepFits es a
FitsAlong Forth es a = FitsRedo step_applied StepFits es a

-- the nodes and the trail after it is taken
abbrev pub arena_along : Way → List (List Step) → Arena → Arena
arena_along Back es a = undone_state step_applied es a
arena_along Forth es a = redone_state step_applied es a

abbrev pub trail_along : Way → Trail → Arena → Trail
trail_along Back t a =
    trail_of (undone step_applied step_inverse t.log a) (drop 1 t.past) (take 1 t.past ++ t.future)
trail_along Forth t a =
    trail_of (redone step_applied step_inverse t.log a) (take 1 t.future ++ t.past)
    (drop 1 t.future)

-- ---- what holds of every one

-- a snapshot stands beside each entry
pub record IsTrail (t : Trail) : Type 0 where
  pub log : IsLog t.log
  pub past : length t.past ≡ length t.log.undo
  pub future : length t.future ≡ length t.log.redo

-- and there is room for as many as the log can have entries
pub record IsSoundHistory (t : Trail) (past_room future_room : ℕ) : Type 0 where
  pub past : length t.past ≡ length t.log.undo
  pub future : length t.future ≡ length t.log.redo
  pub past_room_is : past_room ≡ t.log.depth
  pub future_room_is : future_room ≡ t.log.depth
