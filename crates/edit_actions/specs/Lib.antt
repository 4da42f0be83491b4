pub mod ActiveRange
pub mod Siblings
pub use Rattle.edit_doc.specs.DocumentEdits
pub use Rattle.edit_doc.specs as EditDoc
pub use Rattle.edit_doc.specs.ForestChanges
pub use Rattle.node_tests.specs as NodeTests
pub use Rattle.edit_doc.specs.UndoLog
