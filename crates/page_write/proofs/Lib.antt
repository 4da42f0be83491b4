pub mod Appending
pub mod Indenting
pub mod Placing
pub mod Visiting
pub use Rattle.node_paths.proofs as NodePaths
