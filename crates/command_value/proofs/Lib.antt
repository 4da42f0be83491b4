mod Ancestors
mod Finds
mod Grounds
mod Shown
pub use Rattle.node_styles.proofs.CssValue
pub use Rattle.node_styles.proofs as NodeStyles
