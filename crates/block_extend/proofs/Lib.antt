mod Paragraphs
mod Kids
mod Stepping
mod Walking
mod Visiting
mod Nesting
mod Taking
pub mod Ordered
pub mod Counting
pub mod Parents
pub use Rattle.node_paths.proofs as NodePaths
