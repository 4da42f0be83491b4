-- Lemmas of the crates below that tactics of this crate name.
pub use Rattle.inline_value.proofs.EditQuery.Lists.{all_held, labels_mapped, labels_of_front, labels_of_rest}
