pub mod Paths
pub mod Onward
pub use Rattle.node_arena.specs.DomModel
pub use Rattle.node_arena.specs as NodeArena
