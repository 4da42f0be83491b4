pub mod PointOrder
pub use Rattle.node_arena.specs.DomModel
pub use Rattle.live_range.specs as LiveRange
pub use Rattle.node_arena.specs as NodeArena
