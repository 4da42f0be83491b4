pub mod Onward
pub mod Visiting
pub mod Ways
pub mod Walking
pub use Rattle.node_arena.proofs.DomModel
