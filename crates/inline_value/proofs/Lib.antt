pub mod Clears
pub mod Above
pub mod Keeping
pub mod Levels
pub mod Nested
pub mod Givers
pub mod Selecting
pub mod Lists
pub use Rattle.wrap_split.proofs.CssValue
pub use Rattle.wrap_split.proofs.EditActions
pub use Rattle.wrap_split.proofs.EditDoc
pub use Rattle.edit_query.proofs as EditQuery
pub use Rattle.wrap_split.proofs.ForestChanges
pub use Rattle.edit_query.proofs.NodePaths
pub use Rattle.wrap_split.proofs.NodeStyles
pub use Rattle.wrap_split.proofs.NodeTests
pub use Rattle.wrap_split.proofs as WrapSplit
pub mod Below
