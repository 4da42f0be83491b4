pub mod Change
pub mod Named
pub mod Leaves
pub mod Down
pub use Rattle.dom_model.specs as DomModel
pub use Rattle.undo_log.specs as UndoLog
