pub mod Lists
pub mod Scripts
pub mod Throughout
pub mod Hosting
pub mod Climbing
pub mod Typing
pub use Rattle.block_extend.proofs.NodePaths
pub mod Below
