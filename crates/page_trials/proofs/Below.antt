-- Lemmas of the crates below that tactics of this crate name.
pub use Rattle.inline_value.proofs.EditDoc.Children.{none_held, pushed_held}
