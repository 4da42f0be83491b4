pub mod Places
pub mod Contents
pub mod Splices
pub mod Twice
pub mod BesideLeaf
pub mod PrunedChanges
pub mod DownChange
pub mod ChangeLists
pub mod ManyLeaves
pub mod Wholes
pub use Rattle.dom_model.proofs as DomModel
pub use Rattle.undo_log.proofs as UndoLog
