-- Lemmas of the crates below that tactics of this crate name.
pub use Rattle.inline_value.proofs.EditActions.Placed.{placed_here}
pub use Rattle.inline_value.proofs.EditDoc.Children.{pushed_held}
pub use Rattle.inline_value.proofs.EditQuery.Lists.{labels_of_front, labels_of_rest}
