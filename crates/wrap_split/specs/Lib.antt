pub mod Walks
pub mod Breaks
pub mod Split
pub mod Target
pub mod Wrap
pub use Rattle.command_value.specs as CommandValue
pub use Rattle.command_value.specs.CssValue
pub use Rattle.edit_actions.specs.DocumentEdits
pub use Rattle.edit_actions.specs as EditActions
pub use Rattle.edit_actions.specs.EditDoc
pub use Rattle.edit_actions.specs.ForestChanges
pub use Rattle.command_value.specs.NodeStyles
pub use Rattle.edit_actions.specs.NodeTests
pub use Rattle.command_value.specs.StyleTable
pub use Rattle.edit_actions.specs.UndoLog
