-- Lemmas of the crates below that tactics of this crate name.
pub use Rattle.inline_value.proofs.EditActions.Placed.{placed_here}
pub use Rattle.inline_value.proofs.WrapSplit.Turns.{walks}
