pub mod Styling
pub mod Clearing
pub mod Reordering
pub mod Wrappers
pub mod Forcing
pub mod Pushing
pub mod Recording
pub mod Records
pub mod Ancestors
pub mod Overrides
pub mod Selections
pub use Rattle.edit_query.specs.BlockExtend
pub use Rattle.wrap_split.specs.CommandValue
pub use Rattle.wrap_split.specs.CssValue
pub use Rattle.wrap_split.specs.DocumentEdits
pub use Rattle.wrap_split.specs.EditActions
pub use Rattle.wrap_split.specs.EditDoc
pub use Rattle.edit_query.specs as EditQuery
pub use Rattle.wrap_split.specs.ForestChanges
pub use Rattle.edit_query.specs.NodePaths
pub use Rattle.wrap_split.specs.NodeStyles
pub use Rattle.wrap_split.specs.NodeTests
pub use Rattle.wrap_split.specs.StyleTable
pub use Rattle.wrap_split.specs.UndoLog
pub use Rattle.wrap_split.specs as WrapSplit
pub mod Below
