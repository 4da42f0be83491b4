-- Lemmas of the crates below that tactics of this crate name.
pub use Rattle.delete_core.proofs.Turns.{point_walks}
pub use Rattle.inline_value.proofs.EditActions.Placed.{placed_here}
