-- Lemmas of the crates below that tactics of this crate name.
pub use Rattle.edit_actions.proofs.EditDoc.Children.{pushed_held}
