pub mod Children
pub mod Named
pub mod Placed
pub use Rattle.edit_doc.proofs as EditDoc
pub use Rattle.edit_doc.proofs.ForestChanges
pub use Rattle.node_tests.proofs as NodeTests
