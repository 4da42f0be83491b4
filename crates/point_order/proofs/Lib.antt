mod Finds
mod Toward
mod Children
mod Order
mod Document
pub use Rattle.node_arena.proofs.DomModel
pub use Rattle.live_range.proofs as LiveRange
