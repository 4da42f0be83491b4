pub mod StepLists
pub mod Rebuilding
pub use Rattle.forest_changes.proofs as ForestChanges
pub use Rattle.forest_changes.proofs.UndoLog
