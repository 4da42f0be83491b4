pub mod Turns
pub mod LastNodes
pub mod Backward
pub mod Children
pub mod Extending
pub use Rattle.command_value.proofs.CssValue
pub use Rattle.edit_actions.proofs as EditActions
pub use Rattle.edit_actions.proofs.EditDoc
pub use Rattle.edit_actions.proofs.ForestChanges
pub use Rattle.command_value.proofs.NodeStyles
pub use Rattle.edit_actions.proofs.NodeTests
