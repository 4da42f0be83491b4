pub mod Splice
pub mod Step
pub mod StepLaws
pub use Rattle.forest_changes.specs as ForestChanges
pub use Rattle.node_arena.specs as NodeArena
pub use Rattle.forest_changes.specs.UndoLog
