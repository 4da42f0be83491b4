pub mod Defaults
pub mod Elements
pub mod Lineages
pub mod Finding
pub use Rattle.css_value.proofs as CssValue
pub use Rattle.node_arena.proofs.DomModel
