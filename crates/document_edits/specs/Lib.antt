pub mod Flat
pub mod Replaced
pub mod Told
pub mod Followed
pub use Rattle.forest_changes.specs.DomModel
pub use Rattle.forest_changes.specs.UndoLog
