-- Lemmas of the crates below that tactics of this crate name.
pub use Rattle.wrap_split.proofs.EditActions.Placed.{placed_here}
pub use Rattle.wrap_split.proofs.EditDoc.Children.{none_held}
