pub mod Appending
pub mod Recording
pub use Rattle.document_edits.proofs as DocumentEdits
pub use Rattle.edit_steps.proofs as EditSteps
pub use Rattle.edit_steps.proofs.ForestChanges
pub use Rattle.edit_steps.proofs.UndoLog
