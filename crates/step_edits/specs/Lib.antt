pub mod Recorded
pub use Rattle.document_edits.specs as DocumentEdits
pub use Rattle.edit_steps.specs as EditSteps
pub use Rattle.edit_steps.specs.ForestChanges
pub use Rattle.edit_steps.specs.UndoLog
