pub mod Joining
pub mod Growing
pub mod Pruned
pub mod Documents
pub mod Splicing
pub mod Following
pub mod Sharing
pub mod Undoing
pub mod Wholes
pub use Rattle.forest_changes.proofs.DomModel
pub use Rattle.forest_changes.proofs as ForestChanges
